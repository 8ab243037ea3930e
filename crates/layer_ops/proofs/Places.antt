-- An entry replaced in its place.
use Rattle.std.proofs.Common.{◌≡◌, ℕ, ◌<◌, List, length, Some, ap, ◌∙◌}
use Rattle.std.specs.Prelude.{slice_index_or, slice_set}
use Rattle.std.proofs.lemmas.List.{get_or_default}
use Rattle.layer.specs.declared.records.Update.{Update}
use Rattle.layer_ops.specs.Changes.{merged, updated_at}

pub updated_in_place : (updates : List Update) (old change : Update) (place : ℕ) → place < length updates
    → old ≡ slice_index_or updates place old → slice_set updates place (merged old change) ≡ updated_at updates change (Some place)
updated_in_place updates old change place within e =
    ap (λ entry. slice_set updates place (merged entry change)) (e ∙ get_or_default updates place old change within)
