-- Prefixes of histories, the longer of two, and the entries of one caller in them.
use Rattle.std.proofs.Common.{◌≡◌, ℕ, Bool, true, false, ◌==◌, ◌<◌, ◌≤◌, ◌⊎◌, inl, inr, cond, List, [], ◌∷◌, ◌++◌, length, sym, refl, ap, ◌∙◌, subst, ⊎_elim, arith, append_assoc, length-append}
use Rattle.std.proofs.lemmas.Bool.{lt-ltb, ltb-true}
use Rattle.std.proofs.lemmas.List.Elements.{filter-append}
use Rattle.std.proofs.Math.Dec.{ltb}
use mathlib.Core.List.{IsPrefix}
use mathlib.Core.Logic.{dite}
use native.Mathlib.Decide.{dec_le}
use Rattle.one_history.specs.declared.entry.Entry.{Entry}
use Rattle.one_history.specs.History.{entries_by}
use Rattle.turn_desk.specs.View.{longer}

module _ {A : Type 0} where
  pub prefix_self : (xs : List A) → IsPrefix xs xs
  prefix_self [] = ([], refl)
  prefix_self (x ∷ xs) = (let r = prefix_self xs in r.0, ap (λ ys. x ∷ ys) (prefix_self xs).1)

  pub prefix_more : (xs ys : List A) (y : A) → IsPrefix xs ys → IsPrefix xs (ys ++ y ∷ [])
  prefix_more xs ys y p = (p.0 ++ y ∷ [], sym (append_assoc xs p.0 (y ∷ [])) ∙ ap (λ w. w ++ y ∷ []) p.1)

  pub prefix_length : (xs ys : List A) → IsPrefix xs ys → length xs ≤ length ys
  prefix_length xs ys p = omega (arith, sym (ap length p.1) ∙ length-append xs p.0)

  -- of two prefixes of one list the shorter is a prefix of the longer
  prefix_shorter : (xs ys zs : List A) → IsPrefix xs zs → IsPrefix ys zs → length xs ≤ length ys → IsPrefix xs ys
  prefix_shorter [] ys zs p q le = (ys, refl)
  prefix_shorter (x ∷ xs) [] zs p q le = absurd (omega arith)
  prefix_shorter (x ∷ xs) (y ∷ ys) [] p q le = absurd (cc (p.1))
  prefix_shorter (x ∷ xs) (y ∷ ys) (z ∷ zs) p q le = let heads : x ≡ y = cc (p.1, q.1) in let rest = prefix_shorter xs ys zs (p.0, cc (p.1)) (q.0, cc (q.1)) (omega arith) in (rest.0, cc (heads, rest.1))

  prefix_whole : (xs ys : List A) → IsPrefix xs ys → length ys ≤ length xs → xs ≡ ys
  prefix_whole [] [] p le = refl
  prefix_whole [] (y ∷ ys) p le = absurd (omega arith)
  prefix_whole (x ∷ xs) [] p le = absurd (cc (p.1))
  prefix_whole (x ∷ xs) (y ∷ ys) p le = let rest = prefix_whole xs ys (p.0, cc (p.1)) (omega arith) in cc (p.1, rest)

not_below : (a b : ℕ) → b ≤ a → ltb a b ≡ false
not_below a b h = elim (ltb a b) as (λ t. ltb a b ≡ t → ltb a b ≡ false) [ true ↦ (λ e. let lt = ltb-true a b e in absurd (omega arith)) | false ↦ (λ e. e) ] refl

module _ {M : Type 0} where
  pub longer_is : (a b : List (Entry M)) → ((longer a b ≡ b) × (length a < length b)) ⊎ ((longer a b ≡ a) × (length b ≤ length a))
  longer_is a b = dite (dec_le (length b) (length a)) (λ h. inr (ap (λ (t : Bool). cond t b a) (not_below (length a) (length b) h), h))
      (λ ne. let lt : length a < length b = omega arith in inl (ap (λ (t : Bool). cond t b a) (lt-ltb (length a) (length b) lt), lt))

  pub longer_of : (P : List (Entry M) → Type 0) (a b : List (Entry M)) → P a → P b → P (longer a b)
  longer_of P a b p q = ⊎_elim (λ (h : (longer a b ≡ b) × (length a < length b)). subst P (sym h.0) q) (λ (h : (longer a b ≡ a) × (length b ≤ length a)). subst P (sym h.0) p) (longer_is a b)

  pub longer_left : (a b history : List (Entry M)) → IsPrefix a history → IsPrefix b history → IsPrefix a (longer a b)
  longer_left a b history p q = ⊎_elim (λ (h : (longer a b ≡ b) × (length a < length b)). let lt = h.1 in subst (IsPrefix a) (sym h.0) (prefix_shorter a b history p q (omega arith)))
      (λ (h : (longer a b ≡ a) × (length b ≤ length a)). subst (IsPrefix a) (sym h.0) (prefix_self a)) (longer_is a b)

  pub longer_right : (a b history : List (Entry M)) → IsPrefix a history → IsPrefix b history → IsPrefix b (longer a b)
  longer_right a b history p q = ⊎_elim (λ (h : (longer a b ≡ b) × (length a < length b)). subst (IsPrefix b) (sym h.0) (prefix_self b))
      (λ (h : (longer a b ≡ a) × (length b ≤ length a)). subst (IsPrefix b) (sym h.0) (prefix_shorter b a history q p h.1)) (longer_is a b)

  pub longer_whole_left : (a b history : List (Entry M)) → a ≡ history → IsPrefix b history → longer a b ≡ history
  longer_whole_left a b history e q = ⊎_elim (λ (h : (longer a b ≡ b) × (length a < length b)). let lt = h.1 in absurd (omega (arith, prefix_length b history q, ap length e)))
      (λ (h : (longer a b ≡ a) × (length b ≤ length a)). h.0 ∙ e) (longer_is a b)

  pub longer_whole_right : (a b history : List (Entry M)) → IsPrefix a history → b ≡ history → longer a b ≡ history
  longer_whole_right a b history p e = ⊎_elim (λ (h : (longer a b ≡ b) × (length a < length b)). h.0 ∙ e)
      (λ (h : (longer a b ≡ a) × (length b ≤ length a)). let le = h.1 in h.0 ∙ prefix_whole a history p (omega (arith, ap length e))) (longer_is a b)

  prefix_entries : (n : ℕ) (xs ys : List (Entry M)) → IsPrefix xs ys → IsPrefix (entries_by n xs) (entries_by n ys)
  prefix_entries n xs ys p = (entries_by n p.0, sym (filter-append (λ (e : Entry M). e.caller == n) xs p.0) ∙ ap (entries_by n) p.1)

  -- between two histories with the same entries of a number, each history has those too
  pub entries_between : (n : ℕ) (a b c calls : List (Entry M)) → IsPrefix a b → IsPrefix b c → entries_by n a ≡ calls → entries_by n c ≡ calls → entries_by n b ≡ calls
  entries_between n a b c calls p q ea ec = let x = prefix_entries n a b p in let y = prefix_entries n b c q in
      sym (prefix_whole (entries_by n a) (entries_by n b) x (omega (arith, prefix_length (entries_by n b) (entries_by n c) y, ap length (ea ∙ sym ec)))) ∙ ea
