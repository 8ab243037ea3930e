use Rattle.std.proofs.Common.{◌≡◌, map}
use Rattle.std.specs.Prelude.{ℕ, take, slice_index_or}
use Rattle.round_rules.specs.View.{no_dir}
use Rattle.round_rules.specs.Amounts.{toll_of}
use Rattle.limit_rounds.proofs.routes.tolls_of.Given as goal

abbrev pub invariant-loop-dir : goal.invariant-loop-dir
invariant-loop-dir l = l.tolls.items ≡ map (λ (d : ℕ). toll_of (slice_index_or l.dirs d no_dir)) (take l.dir-index l.path)
