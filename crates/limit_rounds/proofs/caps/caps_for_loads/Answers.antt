use Rattle.std.proofs.Common.{◌∙◌, length}
use Rattle.std.specs.Prelude.{slice_index_or}
use lib.ListN.{length-set}
use Rattle.round_rules.specs.View.{no_dir}
use Rattle.limit_rounds.specs.declared.loads.Load.{Load}
use Rattle.limit_rounds.specs.declared.units.Share.{Share}
use Rattle.limit_rounds.specs.Loads.{load_at}
use Rattle.limit_rounds.specs.Caps.{cap_for_load, share_at}
use Rattle.limit_rounds.proofs.Raising.{cap_is_for_load, wanted_turn}
use Rattle.limit_rounds.proofs.caps.caps_for_loads.Goals as goal

pub loop-i-preserved : goal.loop-i-preserved
loop-i-preserved c =
    let dirs = c.args.dirs.now in
    let loads = c.args.loads.now in
    let shares = c.args.shares.now in
    let unit = c.args.unit in
    let l = c.loop-i-test.true in
    let u = slice_index_or c.args.listed.now c.loop-i.i 0 in
    let within = c.requires.within c.loop-i.i 0 l in
    let load : Load = record { total = 0; least = 0; most = 0 } in
    let share : Share = record { units = 0; part = 0 } in
    let is = c.cap_for_load.ensures ∙ cap_is_for_load dirs loads shares unit u c.index-dirs-dir.result _ load share within c.requires.loads c.requires.shares c.index-dirs-dir.is in
    record {
      long = length-set c.loop-i.all.items _ _ ∙ c.loop-i.invariant.long;
      value = wanted_turn c.loop-i.all.items c.args.listed.now (length dirs) c.loop-i.i (λ d. cap_for_load (slice_index_or dirs d no_dir) (load_at loads d) (share_at shares d).units unit) c.cap_for_load.result l within c.loop-i.invariant.long is c.loop-i.invariant.value;
    }
