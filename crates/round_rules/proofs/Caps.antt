-- Caps of directions, before and after some are listed once more.
use Rattle.std.proofs.Common.{ℕ, zero, suc, ◌+◌, ◌*◌, ◌<◌, ◌≤◌, ◌≡◌, Bool, true, false, cond, List, [], ◌∷◌, sym, refl, ap, ◌∙◌, subst, ⊎_elim, arith, length}
use Rattle.std.specs.Prelude.{All, AllPairs, sum_by, nat_eq, nat_lt, min, Option, None, Some, slice_index_or}
use Rattle.std.specs.Option.{option_map_or}
use Rattle.std.specs.List.{filter_map, range_with_len, cons_option}
use Rattle.std.proofs.lemmas.Bool.{cases_eq, cases_lt, eq-eqb, ne_eqb, ltb-true}
use Rattle.std.proofs.lemmas.List.Elements.{All-head, All-tail, All-cons, All-nil}
use Rattle.std.proofs.lemmas.List.Kept.{AllPairs-cons}
use Rattle.std.proofs.lemmas.List.FromFn.{length-range_with_len, get_or-range_with_len}
use Rattle.std.proofs.lemmas.List.Sums.{sum_by-le, get_or-le-sum_by}
use Rattle.path_split.proofs.Circulation.{sum_by-same}
use Rattle.flow_model.proofs.Duality.{sum_by-add}
use Rattle.round_rules.specs.declared.round.Cap.{Cap}
use Rattle.view_build.specs.View.{ViewParts}
use Rattle.round_rules.specs.Instance.{find_cap, cap_in, times_in}
use Rattle.round_rules.specs.Faults.{all_dirs}
use Rattle.round_rules.specs.Next.{raised, caps_after}

-- what is found for a direction is the direction's
abbrev pub IsOfDirection : ℕ → Option Cap → Type 0
IsOfDirection x None = Unit {0}
IsOfDirection x (Some c) = c.dir ≡ x

pub found_own : (caps : List Cap) (x : ℕ) → IsOfDirection x (find_cap caps x)
found_own [] x = tt
found_own (b ∷ caps) x = ⊎_elim
    (λ (e : b.dir ≡ x). subst (IsOfDirection x) (sym (ap (λ t. cond t (Some b) (find_cap caps x)) (eq-eqb b.dir x e))) e)
    (λ (ne : b.dir ≡ x → ⊥). subst (IsOfDirection x) (sym (ap (λ t. cond t (Some b) (find_cap caps x)) (ne_eqb b.dir x ne))) (found_own caps x))
    (cases_eq b.dir x)

cons_here : (o : Option Cap) (ys : List Cap) (a d : ℕ) → IsOfDirection a o → a ≡ d → find_cap ys d ≡ None → find_cap (cons_option o ys) d ≡ o
cons_here None ys a d own e none = none
cons_here (Some c) ys a d own e none = ap (λ t. cond t (Some c) (find_cap ys d)) (eq-eqb c.dir d (own ∙ e))

cons_past : (o : Option Cap) (ys : List Cap) (a d : ℕ) → IsOfDirection a o → (a ≡ d → ⊥) → find_cap (cons_option o ys) d ≡ find_cap ys d
cons_past None ys a d own ne = refl
cons_past (Some c) ys a d own ne = ap (λ t. cond t (Some c) (find_cap ys d)) (ne_eqb c.dir d (λ f. ne (sym own ∙ f)))

module _ (g : ℕ → Option Cap) (own : (x : ℕ) → IsOfDirection x (g x)) where
  find_none : (a n d : ℕ) → d < a → find_cap (filter_map g (range_with_len a n)) d ≡ None
  find_none a zero d l = refl
  find_none a (suc n) d l = cons_past (g a) (filter_map g (range_with_len (a + 1) n)) a d (own a) (λ e. omega (arith, e, l)) ∙ find_none (a + 1) n d (omega (arith, l))

  find_made : (a n d : ℕ) → a ≤ d → d < a + n → find_cap (filter_map g (range_with_len a n)) d ≡ g d
  find_made a zero d le l = absurd (omega (arith, le, l))
  find_made a (suc n) d le l =
      let rest = filter_map g (range_with_len (a + 1) n) in
      let past : (a ≡ d → ⊥) → find_cap rest d ≡ g d = λ ne. find_made (a + 1) n d (above ne) (omega (arith, l)) in
      ⊎_elim
      (λ (e : a ≡ d). cons_here (g a) rest a d (own a) e (find_none (a + 1) n d (omega (arith, e))) ∙ ap g e)
      (λ (ne : a ≡ d → ⊥). cons_past (g a) rest a d (own a) ne ∙ past ne)
      (cases_eq a d)
    where
      above : (a ≡ d → ⊥) → a + 1 ≤ d
      above ne = ⊎_elim (λ (k : a < d). omega (arith, k)) (λ (k : d ≤ a). absurd (ne (omega (arith, k, le)))) (cases_lt a d)

abbrev pub spent : ViewParts → List Cap → ℕ
spent view caps = sum_by (times_in caps) (all_dirs view)

pub place_in : (view : ViewParts) → All (λ d. d < length view.dirs) (all_dirs view)
place_in view k d l =
    let n = length-range_with_len 0 (length view.dirs) in
    let l' : k < length view.dirs = omega (arith, l, n) in
    let e = get_or-range_with_len 0 (length view.dirs) k d l' in
    omega (arith, e, l')

pub spent_most : (view : ViewParts) (caps : List Cap) → ((d : ℕ) → d < length view.dirs → times_in caps d ≤ 3) → spent view caps ≤ length view.dirs * 3
spent_most view caps most =
    let h = sum_by-le (times_in caps) 3 (all_dirs view) (λ k d l. most (slice_index_or (all_dirs view) k d) (place_in view k d l)) in
    let n = length-range_with_len 0 (length view.dirs) in
    let m = ap (λ x. x * 3) n in
    omega (arith, h, m)

module _ (view : ViewParts) (caps : List Cap) (listed : ℕ → Bool) (cap : ℕ → ℕ) where
  made : ℕ → Option Cap
  made dir = cond (listed dir) (Some (raised caps dir (cap dir))) (find_cap caps dir)

  made_own : (x : ℕ) → IsOfDirection x (cond (listed x) (Some (raised caps x (cap x))) (find_cap caps x))
  made_own x = by (listed x)
    where
      by : (b : Bool) → IsOfDirection x (cond b (Some (raised caps x (cap x))) (find_cap caps x))
      by true = refl
      by false = found_own caps x

  find_after : (d : ℕ) → d < length view.dirs → find_cap (caps_after view caps listed cap) d ≡ cond (listed d) (Some (raised caps d (cap d))) (find_cap caps d)
  find_after d l = find_made (λ x. cond (listed x) (Some (raised caps x (cap x))) (find_cap caps x)) made_own 0 (length view.dirs) d (omega arith) (omega (arith, l))

  pub times_after : (d : ℕ) → d < length view.dirs → times_in (caps_after view caps listed cap) d ≡ times_in caps d + cond (listed d) 1 0
  times_after d l = ap (λ o. option_map_or (λ (c : Cap). c.times) o 0) (find_after d l) ∙ by (listed d)
    where
      by : (b : Bool) → option_map_or (λ (c : Cap). c.times) (cond b (Some (raised caps d (cap d))) (find_cap caps d)) 0 ≡ times_in caps d + cond b 1 0
      by true = refl
      by false = omega arith

  -- a direction is closed once it was listed three times
  pub closed_after : (d m : ℕ) → d < length view.dirs → (3 ≤ times_in caps d → cap_in caps d m ≡ 0) → 3 ≤ times_in (caps_after view caps listed cap) d → cap_in (caps_after view caps listed cap) d m ≡ 0
  closed_after d m l old three = ap (λ o. option_map_or (λ (c : Cap). min c.cap m) o m) (find_after d l) ∙ by (listed d) (times_after d l)
    where
      third : (b : Bool) → nat_lt (times_in caps d) 2 ≡ b → 2 ≤ times_in caps d → cond b (cap d) 0 ≡ 0
      third true e two = absurd (let h = ltb-true (times_in caps d) 2 e in omega (arith, h, two))
      third false e two = refl

      by : (b : Bool) → times_in (caps_after view caps listed cap) d ≡ times_in caps d + cond b 1 0 → option_map_or (λ (c : Cap). min c.cap m) (cond b (Some (raised caps d (cap d))) (find_cap caps d)) m ≡ 0
      by true e = let t = third (nat_lt (times_in caps d) 2) refl (omega (arith, e, three)) in omega (arith, t)
      by false e = old (omega (arith, e, three))

  sum_after : spent view (caps_after view caps listed cap) ≡ spent view caps + sum_by (λ d. cond (listed d) 1 0) (all_dirs view)
  sum_after =
      sum_by-same (times_in (caps_after view caps listed cap)) (λ d. times_in caps d + cond (listed d) 1 0) (all_dirs view) (λ k d l. times_after (slice_index_or (all_dirs view) k d) (place_in view k d l))
      ∙ sum_by-add (λ d. times_in caps d + cond (listed d) 1 0) (times_in caps) (λ d. cond (listed d) 1 0) (all_dirs view) (λ d. refl)

  pub spent_kept : spent view caps ≤ spent view (caps_after view caps listed cap)
  spent_kept = let h = sum_after in omega (arith, h)

  pub spent_rises : (d : ℕ) → d < length view.dirs → listed d ≡ true → spent view caps < spent view (caps_after view caps listed cap)
  spent_rises d l e =
      let n = length-range_with_len 0 (length view.dirs) in
      let at = get_or-range_with_len 0 (length view.dirs) d 0 l in
      let le = get_or-le-sum_by (λ x. cond (listed x) 1 0) (all_dirs view) d 0 (omega (arith, n, l)) in
      let one : cond (listed (slice_index_or (all_dirs view) d 0)) 1 0 ≡ 1 = ap {B = ℕ} (λ x. cond (listed x) 1 0) (at ∙ omega arith) ∙ ap {B = ℕ} (λ b. cond b 1 0) e in
      let h = sum_after in
      omega (arith, le, one, h)

-- a fact about the entry, if there is one
abbrev pub OnSome : (Cap → Type 0) → Option Cap → Type 0
OnSome P None = Unit {0}
OnSome P (Some c) = P c

pub found_all : (P : Cap → Type 0) (caps : List Cap) (d : ℕ) → All P caps → OnSome P (find_cap caps d)
found_all P [] d all = tt
found_all P (c ∷ caps) d all = by (nat_eq c.dir d) (found_all P caps d (All-tail P c caps all))
  where
    by : (b : Bool) → OnSome P (find_cap caps d) → OnSome P (cond b (Some c) (find_cap caps d))
    by true rest = All-head P c caps all
    by false rest = rest

pub times_most : (caps : List Cap) → All (λ (c : Cap). c.times ≤ 3) caps → (d : ℕ) → times_in caps d ≤ 3
times_most caps most d = from (find_cap caps d) (found_all (λ (c : Cap). c.times ≤ 3) caps d most)
  where
    from : (o : Option Cap) → OnSome (λ (c : Cap). c.times ≤ 3) o → option_map_or (λ (c : Cap). c.times) o 0 ≤ 3
    from None h = omega arith
    from (Some c) h = h

-- a direction that was listed three times has a cap of 0
pub closed_cap : (caps : List Cap) → All (λ (c : Cap). 3 ≤ c.times → c.cap ≡ 0) caps → (d m : ℕ) → 3 ≤ times_in caps d → cap_in caps d m ≡ 0
closed_cap caps closed d m = from (find_cap caps d) (found_all (λ (c : Cap). 3 ≤ c.times → c.cap ≡ 0) caps d closed)
  where
    from : (o : Option Cap) → OnSome (λ (c : Cap). 3 ≤ c.times → c.cap ≡ 0) o → 3 ≤ option_map_or (λ (c : Cap). c.times) o 0 → option_map_or (λ (c : Cap). min c.cap m) o m ≡ 0
    from None h three = absurd (omega (arith, three))
    from (Some c) h three = let z = h three in omega (arith, z)

-- what holds of each entry that is made holds of the list
all_made : (P : Cap → Type 0) (g : ℕ → Option Cap) (xs : List ℕ) → All (λ x. OnSome P (g x)) xs → All P (filter_map g xs)
all_made P g [] each = All-nil P
all_made P g (x ∷ xs) each = by (g x) (All-head (λ y. OnSome P (g y)) x xs each) (all_made P g xs (All-tail (λ y. OnSome P (g y)) x xs each))
  where
    by : (o : Option Cap) → OnSome P o → All P (filter_map g xs) → All P (cons_option o (filter_map g xs))
    by None here rest = rest
    by (Some c) here rest = All-cons P c (filter_map g xs) here rest

-- entries of ascending directions ascend
made_order : (g : ℕ → Option Cap) (own : (x : ℕ) → IsOfDirection x (g x)) (a n : ℕ) → AllPairs (λ (b c : Cap). b.dir < c.dir) (filter_map g (range_with_len a n)) × All (λ (c : Cap). a ≤ c.dir) (filter_map g (range_with_len a n))
made_order g own a zero = (λ i j d l m. absurd (omega (arith, l, m)), All-nil (λ (c : Cap). a ≤ c.dir))
made_order g own a (suc n) = by (g a) (own a) (made_order g own (a + 1) n)
  where
    rest : List Cap
    rest = filter_map g (range_with_len (a + 1) n)

    by : (o : Option Cap) → IsOfDirection a o → AllPairs (λ (b c : Cap). b.dir < c.dir) rest × All (λ (c : Cap). a + 1 ≤ c.dir) rest → AllPairs (λ (b c : Cap). b.dir < c.dir) (cons_option o rest) × All (λ (c : Cap). a ≤ c.dir) (cons_option o rest)
    by None o h = (h.0, λ k d l. let x = h.1 k d l in omega (arith, x))
    by (Some c) o h = (
      AllPairs-cons (λ (b c : Cap). b.dir < c.dir) c rest (λ k d l. let x = h.1 k d l in omega (arith, x, o)) h.0,
      All-cons (λ (c : Cap). a ≤ c.dir) c rest (omega (arith, o)) (λ k d l. let x = h.1 k d l in omega (arith, x)),
    )

module _ (view : ViewParts) (caps : List Cap) (listed : ℕ → Bool) (cap : ℕ → ℕ) where
  own_after : (x : ℕ) → IsOfDirection x (cond (listed x) (Some (raised caps x (cap x))) (find_cap caps x))
  own_after x = by (listed x)
    where
      by : (b : Bool) → IsOfDirection x (cond b (Some (raised caps x (cap x))) (find_cap caps x))
      by true = refl
      by false = found_own caps x

  pub order_after : AllPairs (λ (b c : Cap). b.dir < c.dir) (caps_after view caps listed cap)
  order_after = (made_order (λ x. cond (listed x) (Some (raised caps x (cap x))) (find_cap caps x)) own_after 0 (length view.dirs)).0

  -- what holds of the old caps and of those of listed directions holds of the new caps
  pub all_after : (P : Cap → Type 0) → ((d : ℕ) → d < length view.dirs → listed d ≡ true → P (raised caps d (cap d))) → All P caps → All P (caps_after view caps listed cap)
  all_after P new old = all_made P (λ x. cond (listed x) (Some (raised caps x (cap x))) (find_cap caps x)) (all_dirs view) (λ k d l. let x = slice_index_or (all_dirs view) k d in by x (place_in view k d l) (listed x) refl)
    where
      by : (x : ℕ) → x < length view.dirs → (b : Bool) → listed x ≡ b → OnSome P (cond b (Some (raised caps x (cap x))) (find_cap caps x))
      by x l true e = new x l e
      by x l false e = found_all P caps x old
