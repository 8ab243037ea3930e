use Rattle.std.proofs.Common.{◌∷◌, sym, ap, subst, ◌∙◌, arith}
use Rattle.json.specs.Reads.{token_of}
use Rattle.json_pass.proofs.Fronts.{opened_object}
use Rattle.channel_map.specs.Channels.{Gathered}
use Rattle.channel_map.specs.Found.{gathered_in}
use Rattle.channel_map.proofs.Progress.{Progress, started, read_more, all_read, closed}
use Rattle.channel_map.proofs.pieces.read_piece.Goals as goal

pub entries-init : goal.entries-init
entries-init c =
    let all = c.args.reader.now in
    let first = c.in-Some.ensures.value in
    let opens = opened_object _ (sym c.is_object.ensures ∙ c.if-not-is_object.false) in (
      subst (Progress c.args.depth (gathered_in c.args.found.now) all (gathered_in c.args.found.now)) first (started c.args.depth (gathered_in c.args.found.now) all),
      (c.next.new.self, first ∙ ap (λ t. t ∷ c.next.new.self) opens),
    )

pub returns-in-None-clause-whole : goal.returns-in-None-clause-whole
returns-in-None-clause-whole c = λ told.
    (let all = c.args.reader.now in
    let old = gathered_in c.args.found.now in
    let new : Gathered = (c.add.new.edges.items, c.in_ok-found.field-0) in
    let read = read_more c.args.depth old all (gathered_in c.entries.found) new (token_of c.entries.token ∷ c.entries.reader) c.read_entry_after.new.reader c.in-Ok.entry c.entries.invariant.0 c.in-Ok.ensures.value (omega (arith, c.in-Ok.ensures.shorter)) c.in_ok-found.ensures.ok in
    all_read c.args.depth old all new (subst (Progress c.args.depth old all new) c.in-None.ensures.value.0 read))

pub returns-in-Some-EndArray-clause-closed : goal.returns-in-Some-EndArray-clause-closed
returns-in-Some-EndArray-clause-closed c = λ told.
    (let all = c.args.reader.now in
    let old = gathered_in c.args.found.now in
    let new : Gathered = (c.add.new.edges.items, c.in_ok-found.field-0) in
    let read = read_more c.args.depth old all (gathered_in c.entries.found) new (token_of c.entries.token ∷ c.entries.reader) c.read_entry_after.new.reader c.in-Ok.entry c.entries.invariant.0 c.in-Ok.ensures.value (omega (arith, c.in-Ok.ensures.shorter)) c.in_ok-found.ensures.ok in
    let last = c.in-Some-EndArray.ensures.value ∙ ap (λ t. token_of t ∷ c.next-in-entries.new.self) c.in-Some-EndArray.field-0-is in
    closed c.args.depth old all new c.next-in-entries.new.self (subst (Progress c.args.depth old all new) last read))

pub entries-preserved : goal.entries-preserved
entries-preserved c =
    let all = c.args.reader.now in
    let old = gathered_in c.args.found.now in
    let new : Gathered = (c.add.new.edges.items, c.in_ok-found.field-0) in
    let read = read_more c.args.depth old all (gathered_in c.entries.found) new (token_of c.entries.token ∷ c.entries.reader) c.read_entry_after.new.reader c.in-Ok.entry c.entries.invariant.0 c.in-Ok.ensures.value (omega (arith, c.in-Ok.ensures.shorter)) c.in_ok-found.ensures.ok in
    (subst (Progress c.args.depth old all new) c.in-Some-next.ensures.value read, c.entries.invariant.1)
