-- The layers of an ask, each once.
use Rattle.std.proofs.Common.{◌≡◌, Bool, true, false, List, [], ◌∷◌, ◌++◌, length, map, Some, refl, sym, ap, subst, ◌∙◌}
use Rattle.std.specs.Prelude.{if◌then◌else◌}
use Rattle.std.specs.List.{IsDistinct, AllByRecursion}
use Rattle.std.proofs.lemmas.Bool.{le-leb, or_parts, or_from}
use Rattle.std.proofs.lemmas.List.{length-map, append-nil}
use Rattle.std.proofs.Math.Seq.{append_snoc}
use Rattle.serde_json.specs.Events.{items_len}
use Rattle.serde_json.specs.View.{items_of}
use Rattle.layer.specs.Ask.{same_asked}
use Rattle.layer.specs.declared.ask.TheConstants.{ASKED_MAX}
use Rattle.layer.specs.declared.ask.Asked.{Asked}
use Rattle.params.specs.Asked.{AreGoodLayers}
use Rattle.params.specs.Kinds.{all_asked, each_once, is_among, layers_value}
use Rattle.params.specs.Printed.{asked_data, layers_data}
use Rattle.params.proofs.Paths.{count_of_items}

all_snoc : {A : Type 0} (P : A → Type 0) (xs : List A) (a : A) → AllByRecursion P xs → P a → AllByRecursion P (xs ++ a ∷ [])
all_snoc P [] a all last = (last, tt)
all_snoc P (x ∷ xs) a all last = (all.0, all_snoc P xs a all.1 last)

all_seam : {A : Type 0} (P : A → Type 0) (xs : List A) (a : A) (ys : List A) → AllByRecursion P (xs ++ a ∷ ys) → P a
all_seam P [] a ys all = all.0
all_seam P (x ∷ xs) a ys all = all_seam P xs a ys all.1

pub distinct_snoc : (xs : List Asked) (a : Asked) → IsDistinct same_asked xs → is_among xs a ≡ false → IsDistinct same_asked (xs ++ a ∷ [])
unfolding IsDistinct
distinct_snoc [] a distinct none = (tt, tt)
distinct_snoc (x ∷ xs) a distinct none =
    let parts = or_parts (same_asked x a) (is_among xs a) none in
    (all_snoc (λ y. same_asked x y ≡ false) xs a distinct.0 parts.0, distinct_snoc xs a distinct.1 parts.1)

pub distinct_none : IsDistinct same_asked []
unfolding IsDistinct
distinct_none = tt

distinct_at : (b : Bool) (xs : List Asked) (a : Asked) → is_among xs a ≡ b → IsDistinct same_asked xs → IsDistinct same_asked (if b then xs else xs ++ a ∷ [])
distinct_at true xs a is distinct = distinct
distinct_at false xs a is distinct = distinct_snoc xs a distinct is

-- one more layer, if it is not among those before it
pub distinct_more : (xs : List Asked) (a : Asked) → IsDistinct same_asked xs → IsDistinct same_asked (if is_among xs a then xs else xs ++ a ∷ [])
distinct_more xs a distinct = distinct_at (is_among xs a) xs a refl distinct

not_among : (seen : List Asked) (a : Asked) (later : List Asked) → IsDistinct same_asked (seen ++ a ∷ later) → is_among seen a ≡ false
unfolding IsDistinct
not_among [] a later distinct = refl
not_among (x ∷ seen) a later distinct =
    or_from (same_asked x a) (is_among seen a) (all_seam (λ y. same_asked x y ≡ false) seen a later distinct.0) (not_among seen a later distinct.1)

-- layers that differ all count
once_keeps : (seen later : List Asked) → IsDistinct same_asked (seen ++ later) → each_once seen later ≡ seen ++ later
once_keeps seen [] distinct = sym (append-nil seen)
once_keeps seen (a ∷ later) distinct =
    let seam : (seen ++ a ∷ []) ++ later ≡ seen ++ a ∷ later = append_snoc seen a later in
    let more : IsDistinct same_asked ((seen ++ a ∷ []) ++ later) = subst (IsDistinct same_asked) (sym seam) distinct in
    rw (not_among seen a later distinct) (once_keeps (seen ++ a ∷ []) later more ∙ seam)

-- layers that are written are read back
pub layers_back : (layers : List Asked) → AreGoodLayers layers → all_asked (items_of (map asked_data layers)) ≡ Some layers
    → layers_value (layers_data layers) ≡ Some layers
unfolding layers_value
layers_back layers good back =
    let count : items_len (items_of (map asked_data layers)) ≡ length layers = count_of_items (map asked_data layers) ∙ length-map layers asked_data in
    rw (count, le-leb (length layers) ASKED_MAX good.few, back) (ap Some (once_keeps [] layers good.distinct))
