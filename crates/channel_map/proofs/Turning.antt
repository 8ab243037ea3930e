-- One turn of the loops over a list of directions.
use Rattle.std.proofs.Common.{◌≡◌, ℕ, ◌+◌, ◌<◌, List, [], ◌∷◌, ◌++◌, length, get_or, drop, fold, true, false, Some, if◌then◌else◌, sym, ap, ◌∙◌}
use Rattle.std.specs.List.{list_any}
use Rattle.std.proofs.lemmas.List.{at_drop_more}
use Rattle.plan_base.specs.Dir.{Direction, same_dir}
use Rattle.channel_map.specs.declared.edge.Edge.{Edge}
use Rattle.channel_map.specs.Reading.{repeated_after, with_ends}

module _ (edges : List Edge) (i : ℕ) (edge : Edge) (within : i < length edges) (is : edge ≡ get_or edges i edge) where
  at_item : {Y : Type 0} (F : List Edge → Y) → F (drop i edges) ≡ F (edge ∷ drop (i + 1) edges)
  at_item F = at_drop_more F edges i edge within ∙ ap (λ x. F (x ∷ drop (i + 1) edges)) (sym is)

  pub repeat_found : (seen : List Direction) → list_any (same_dir edge.dir) seen ≡ true → repeated_after seen (drop i edges) ≡ Some edge.dir
  repeat_found seen e = at_item (repeated_after seen) ∙ ap (λ b. if b then Some edge.dir else repeated_after (seen ++ edge.dir ∷ []) (drop (i + 1) edges)) e

  pub repeat_later : (seen : List Direction) → list_any (same_dir edge.dir) seen ≡ false → repeated_after seen (drop i edges) ≡ repeated_after (seen ++ edge.dir ∷ []) (drop (i + 1) edges)
  repeat_later seen e = at_item (repeated_after seen) ∙ ap (λ b. if b then Some edge.dir else repeated_after (seen ++ edge.dir ∷ []) (drop (i + 1) edges)) e

  pub ends_more : (nodes : List (List ℕ)) → fold with_ends nodes (drop i edges) ≡ fold with_ends (with_ends nodes edge) (drop (i + 1) edges)
  ends_more nodes = at_item (fold with_ends nodes)
