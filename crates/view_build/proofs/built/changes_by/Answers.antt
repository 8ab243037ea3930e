use Rattle.std.proofs.Common.{sym, ap, ◌∙◌}
use Rattle.std.specs.BTreeMap.{keys}
use Rattle.std.proofs.lemmas.List.Elements.{Contains-append_left, Contains-append_right}
use Rattle.layer.specs.declared.ask.Ask.{Ask}
use Rattle.view_build.specs.Given.{fields_of, no_fields}
use Rattle.view_build.specs.Known.{known_of, unknown}
use Rattle.view_build.specs.Rules.{is_disabled}
use Rattle.view_build.specs.Built.{is_free}
use Rattle.view_build.proofs.Walking.{absent}
use Rattle.view_build.proofs.built.changes_by.Goals as goal

pub returns-clause-changes : goal.returns-clause-changes
returns-clause-changes c sources ask_is layers_is held_is =
    let layers = c.as_slice-layers.ensures ∙ sym layers_is in
    record {
      given = λ dir. c.requires.given dir ∙ ap (fields_of dir) (sym layers_is);
      known = λ dir. c.in_ok-known.ensures dir ∙ ap (λ ls. known_of dir ls c.held.result.now) layers ∙ ap (known_of dir sources.layers) (c.held.ensures.list ∙ sym held_is);
      disabled = λ node. c.in_ok-disabled.ensures node ∙ ap (is_disabled node) layers;
      free = λ edge. c.free_source.ensures edge ∙ ap (λ (a : Ask). is_free a edge) (c.ask.ensures.value ∙ sym ask_is);
    }

pub returns-clause-affected : goal.returns-clause-affected
returns-clause-affected c =
    let given = c.args.given in
    let known = c.in_ok-known.known in
    let dirs = c.in_ok-affected.affected.items in
    let all = c.in_ok-affected.ensures.all in
    record {
      ascend = c.in_ok-affected.ensures.ascend;
      given = λ dir none. absent given (no_fields dir) dirs dir (λ among. all dir (Contains-append_left (keys given) (keys known) dir among)) none;
      known = λ dir none. absent known unknown dirs dir (λ among. all dir (Contains-append_right (keys given) (keys known) dir among)) none;
    }
