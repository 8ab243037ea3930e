use Rattle.std.proofs.Common.{◌≡◌, Some, sym, subst, rules, IfOk, IfErr}
use Rattle.serde_json.specs.View.{view}
use Rattle.serde_json.specs.declared.value.Value.{Object}
use Rattle.rpc_lines.specs.Request.{LineReading, request, value_of}
use Rattle.rpc_lines.specs.Fault.{IsRequestFault}
use Rattle.rpc_lines.proofs.Values.{request_of_object}
use Rattle.rpc_lines.proofs.read.read_request.Goals as goal

pub returns-in-Some-Object-clause-ok : goal.returns-in-Some-Object-clause-ok
returns-in-Some-Object-clause-ok c =
    let is : Some (view (Object c.in-Some-Object.members)) ≡ value_of c.args.line.now = search rules in
    subst (λ (a : LineReading). IfOk c.request_in.result (λ it. a ≡ request it.id it.method (view it.params))) (sym (request_of_object _ c.in-Some-Object.members is)) (rw c.in-Some-Object.members-is at c.request_in.ensures.ok)

pub returns-in-Some-Object-clause-err : goal.returns-in-Some-Object-clause-err
returns-in-Some-Object-clause-err c =
    let is : Some (view (Object c.in-Some-Object.members)) ≡ value_of c.args.line.now = search rules in
    subst (λ (a : LineReading). IfErr c.request_in.result (λ fault. IsRequestFault fault a)) (sym (request_of_object _ c.in-Some-Object.members is)) (rw c.in-Some-Object.members-is at c.request_in.ensures.err)
