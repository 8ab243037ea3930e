-- A value is read from tokens of its own, which are good, whatever follows them.
use Rattle.std.proofs.Common.{◌≡◌, ℕ, zero, suc, ◌-◌, ◌<◌, ◌≤◌, true, ◌&&◌, List, [], ◌∷◌, ◌++◌, length, Option, Some, None, option_map, option_and_then, refl, sym, ap, ap₂, ◌∙◌, subst, append_assoc, length-append, le_refl, arith}
use Rattle.std.proofs.Math.Bool.{and_assoc}
use Rattle.json.specs.Token.{Token}
use Rattle.json.specs.Json.{Json, array, object, Items, no_items, item, Members, no_members, member, Parse, parse_map, after_end_array, read_key, items_step, members_step, items, members, value_with, value}
use Rattle.json.specs.Json as json
use Rattle.json.specs.Align.{is_good}
use Rattle.json.proofs.Grammar.{left, value_is, items_end, items_more, members_end, members_more, skip_value-shorter, closed_array, read_key_is}
use Rattle.serde_json.specs.Data.{Data}
use Rattle.serde_json.specs.Read.{of_json, converted}
use Rattle.json_pass.specs.Value.{value_as}
use Rattle.json_pass.specs.Pieces.{are_good}
use Rattle.json_pass.proofs.Turns.{converted_some}
use Rattle.json_pass.proofs.Fronts.{as_some}

-- `own` is good, and `a` is read from it, whatever follows
pub record IsReadFrom {A : Type 0} (p : Parse A) (a : A) (own : List Token) : Type 0 where
  pub good : are_good own ≡ true
  pub reads : (more : List Token) → p (own ++ more) ≡ Some (a, more)

abbrev HasOwn : {A : Type 0} → Parse A → List Token → List Token → A → Type 0
HasOwn p ts r a = (own : List Token) × (ts ≡ own ++ r) × IsReadFrom p a own

abbrev Owns : {A : Type 0} → Parse A → Type 0
Owns {A} p = (ts r : List Token) (a : A) → p ts ≡ Some (a, r) → HasOwn p ts r a

-- the same of a loop, within each bound that is enough
abbrev LoopReads : {A : Type 0} → (ℕ → Parse A) → A → List Token → Type 0
LoopReads loop a own = (m : ℕ) (more : List Token) → length (own ++ more) ≤ m → loop m (own ++ more) ≡ Some (a, more)

abbrev HasLoop : {A : Type 0} → (ℕ → Parse A) → List Token → List Token → A → Type 0
HasLoop loop ts r a = (own : List Token) × (ts ≡ own ++ r) × (are_good own ≡ true) × LoopReads loop a own

abbrev LoopOwns : {A : Type 0} → (ℕ → Parse A) → ℕ → Type 0
LoopOwns {A} loop n = (ts r : List Token) (a : A) → loop n ts ≡ Some (a, r) → HasLoop loop ts r a

abbrev pick : {A : Type 0} → A → Option A → A
pick d None = d
pick d (Some a) = a

map_some : {A B : Type 0} (f : A → B) (o : Option (A × List Token)) (b : B) (r : List Token) → parse_map f o ≡ Some (b, r) → (a : A) × (o ≡ Some (a, r)) × (f a ≡ b)
map_some f None b r e = absurd (cc)
map_some f (Some p) b r e = let same = ap (pick (b, r)) e in (p.0, ap (λ q. Some (p.0, q.1)) same, ap (λ q. q.0) same)

-- a value, and then the rest of the loop
then_some : {B : Type 0} (f : Json → B → B) (more : Parse B) (o : Option (Json × List Token)) (b : B) (r : List Token) → option_and_then (λ q. parse_map (f q.0) (more q.1)) o ≡ Some (b, r)
    → (j : Json) × (s : List Token) × (c : B) × (o ≡ Some (j, s)) × (more s ≡ Some (c, r)) × (f j c ≡ b)
then_some f more None b r e = absurd (cc)
then_some f more (Some q) b r e = let c = map_some (f q.0) (more q.1) b r e in (q.0, q.1, c.0, refl, c.1, c.2)

are_good-append : (a b : List Token) → are_good (a ++ b) ≡ (are_good a && are_good b)
are_good-append [] b = refl
are_good-append (t ∷ ts) b = ap (λ g. is_good t && g) (are_good-append ts b) ∙ sym (and_assoc (is_good t) (are_good ts) (are_good b))

both_good : (a b : List Token) → are_good a ≡ true → are_good b ≡ true → are_good (a ++ b) ≡ true
both_good a b g h = are_good-append a b ∙ ap₂ (λ x y. x && y) g h

appended : (a b c d : List Token) → (a ++ (b ++ c)) ++ d ≡ a ++ (b ++ (c ++ d))
appended a b c d = append_assoc a (b ++ c) d ∙ ap (λ x. a ++ x) (append_assoc b c d)

module _ (depth : ℕ) (owns : Owns (value depth)) where
  -- a turn of a loop: what stands in front of the value, the value, and the rest of the loop
  module _ {B : Type 0} (f : Json → B → B) (loop : ℕ → Parse B) (front : List Token) (good_front : are_good front ≡ true)
      (step : (n : ℕ) (ts r : List Token) (j : Json) → 0 < n → value depth ts ≡ Some (j, r) → loop n (front ++ ts) ≡ parse_map (f j) (loop (n - 1) r)) where
    turn_reads : (first rest : List Token) (j : Json) (c : B) → IsReadFrom (value depth) j first → LoopReads loop c rest → LoopReads loop (f j c) (front ++ (first ++ rest))
    turn_reads first rest j c is reads m more enough =
        let same = appended front first rest more in
        let read = is.reads (rest ++ more) in
        let taken = skip_value-shorter depth (first ++ (rest ++ more)) (rest ++ more) (ap left read) in
        let less : length (rest ++ more) < m = omega (arith, enough, ap length same, length-append front (first ++ (rest ++ more)), taken) in
        let some : 0 < m = omega (arith, less) in
        let enough_then : length (rest ++ more) ≤ m - 1 = omega (arith, less) in
        ap (loop m) same ∙ step m (first ++ (rest ++ more)) (rest ++ more) j some read ∙ ap (parse_map (f j)) (reads (m - 1) more enough_then)

    own_turn : (n : ℕ) → LoopOwns loop n → (ts r : List Token) (b : B) → option_and_then (λ q. parse_map (f q.0) (loop n q.1)) (value depth ts) ≡ Some (b, r) → HasLoop loop (front ++ ts) r b
    own_turn n again ts r b e =
        let s = then_some f (loop n) (value depth ts) b r e in
        let first = owns ts s.1 s.0 s.3 in
        let rest = again s.1 r s.2 s.4 in
        let own = front ++ (first.0 ++ rest.0) in
        let same : front ++ ts ≡ own ++ r = ap (λ x. front ++ x) (first.1 ∙ ap (λ x. first.0 ++ x) rest.1) ∙ sym (appended front first.0 rest.0 r) in
        let good = both_good front (first.0 ++ rest.0) good_front (both_good first.0 rest.0 first.2.good rest.2) in
        (own, same, good, subst (λ x. LoopReads loop x own) s.5 (turn_reads first.0 rest.0 s.0 s.2 first.2 rest.3))

  -- where a value begins, no array ends
  not_ended : (ts r : List Token) (j : Json) (o : Option (List Token)) → value depth ts ≡ Some (j, r) → after_end_array ts ≡ o → after_end_array ts ≡ None
  not_ended ts r j None e f = f
  not_ended ts r j (Some x) e f = let none : value depth ts ≡ None = ap (value depth) (closed_array ts x f) ∙ value_is depth (Token.end_array ∷ x) in absurd (cc)

  own_item : (n : ℕ) (ts r : List Token) (js : Items) (o : Option (List Token)) → LoopOwns (items (value depth)) n → after_end_array ts ≡ o
      → items_step (value depth) (items (value depth) n) ts o ≡ Some (js, r) → HasLoop (items (value depth)) ts r js
  own_item n ts r js (Some x) again e f =
      let same = ap (pick (js, r)) f in
      let reads : LoopReads (items (value depth)) js (Token.end_array ∷ []) = λ m more enough. items_end (value depth) m (Token.end_array ∷ more) more enough refl ∙ ap (λ q. Some (q.0, more)) same in
      (Token.end_array ∷ [], closed_array ts x e ∙ ap (λ q. Token.end_array ∷ q.1) same, refl, reads)
  own_item n ts r js None again e f =
      own_turn item (items (value depth)) [] refl (λ m us s j some read. items_more (value depth) m us s j some (not_ended us s j (after_end_array us) read refl) read) n again ts r js f

  own_items : (n : ℕ) → LoopOwns (items (value depth)) n
  unfolding items
  own_items zero ts r js e = absurd (cc)
  own_items (suc n) ts r js e = own_item n ts r js (after_end_array ts) (own_items n) refl e

  own_member : (n : ℕ) (ts r : List Token) (ms : Members) (o : Option (Option (List ℕ) × List Token)) → LoopOwns (members (value depth)) n → read_key ts ≡ o
      → option_and_then (λ q. members_step (value depth) (members (value depth) n) q.0 q.1) o ≡ Some (ms, r) → HasLoop (members (value depth)) ts r ms
  own_member n ts r ms None again e f = absurd (cc)
  own_member n ts r ms (Some (None, x)) again e f =
      let same = ap (pick (ms, r)) f in
      let reads : LoopReads (members (value depth)) ms (Token.end_object ∷ []) = λ m more enough. members_end (value depth) m (Token.end_object ∷ more) more enough refl ∙ ap (λ q. Some (q.0, more)) same in
      (Token.end_object ∷ [], read_key_is ts None x e ∙ ap (λ q. Token.end_object ∷ q.1) same, refl, reads)
  own_member n ts r ms (Some (Some k, x)) again e f =
      let own = own_turn (member k) (members (value depth)) (Token.key k ∷ []) refl (λ m us s j some read. members_more (value depth) m k (Token.key k ∷ us) us s j some refl read) n again x r ms f in
      (own.0, read_key_is ts (Some k) x e ∙ own.1, own.2, own.3)

  own_members : (n : ℕ) → LoopOwns (members (value depth)) n
  unfolding members
  own_members zero ts r ms e = absurd (cc)
  own_members (suc n) ts r ms e = own_member n ts r ms (read_key ts) (own_members n) refl e

looped : {A : Type 0} (loop : ℕ → Parse A) → ((n : ℕ) → LoopOwns loop n) → Owns (λ ts. loop (length ts) ts)
looped loop owns ts r a e = let o = owns (length ts) ts r a e in (o.0, o.1, record { good = o.2; reads = λ more. o.3 (length (o.0 ++ more)) more (le_refl (length (o.0 ++ more))) })

-- a value of one token, or of a token and what a loop reads
module _ (a : Parse Items) (o : Parse Members) where
  own_token : (t : Token) (x : Json) (ts r : List Token) (j : Json) → is_good t ≡ true → ((more : List Token) → value_with a o (t ∷ more) ≡ Some (x, more)) → value_with a o (t ∷ ts) ≡ Some (j, r)
      → HasOwn (value_with a o) (t ∷ ts) r j
  own_token t x ts r j good reads e =
      let same = ap (pick (j, r)) (sym (reads ts) ∙ e) in
      (t ∷ [], ap (λ q. t ∷ q.1) same, record { good = ap (λ g. g && true) good; reads = λ more. reads more ∙ ap (λ q. Some (q.0, more)) same })

  own_nest : {B : Type 0} (t : Token) (f : B → Json) (p : Parse B) → is_good t ≡ true → Owns p → ((more : List Token) → value_with a o (t ∷ more) ≡ parse_map f (p more))
      → (ts r : List Token) (j : Json) → parse_map f (p ts) ≡ Some (j, r) → HasOwn (value_with a o) (t ∷ ts) r j
  own_nest t f p good owns step ts r j e =
      let b = map_some f (p ts) j r e in
      let own = owns ts r b.0 b.1 in
      (t ∷ own.0, ap (λ x. t ∷ x) own.1, record { good = ap₂ (λ x y. x && y) good own.2.good; reads = λ more. step (own.0 ++ more) ∙ ap (parse_map f) (own.2.reads more) ∙ ap (λ x. Some (x, more)) b.2 })

  own_value_with : Owns a → Owns o → Owns (value_with a o)
  own_value_with p q (Token.begin_object ∷ ts) r j e = own_nest Token.begin_object object o refl q (λ more. refl) ts r j e
  own_value_with p q (Token.begin_array ∷ ts) r j e = own_nest Token.begin_array array a refl p (λ more. refl) ts r j e
  own_value_with p q (Token.string s ∷ ts) r j e = own_token (Token.string s) (json.string s) ts r j refl (λ more. refl) e
  own_value_with p q (Token.number s ∷ ts) r j e = own_token (Token.number s) (json.number s) ts r j refl (λ more. refl) e
  own_value_with p q (Token.boolean b ∷ ts) r j e = own_token (Token.boolean b) (json.boolean b) ts r j refl (λ more. refl) e
  own_value_with p q (Token.null ∷ ts) r j e = own_token Token.null json.null ts r j refl (λ more. refl) e
  own_value_with p q ts r j e = absurd (cc)

pub own_tokens : (depth : ℕ) (ts r : List Token) (j : Json) → value depth ts ≡ Some (j, r) → (own : List Token) × (ts ≡ own ++ r) × IsReadFrom (value depth) j own
unfolding value
own_tokens zero = own_value_with (λ ts. None) (λ ts. None) (λ ts r a e. absurd (cc)) (λ ts r a e. absurd (cc))
own_tokens (suc d) =
    let owns : Owns (value d) = own_tokens d in
    own_value_with (λ ts. items (value d) (length ts) ts) (λ ts. members (value d) (length ts) ts) (looped (items (value d)) (own_items d owns)) (looped (members (value d)) (own_members d owns))

-- a function of the value, from its own tokens
pub own_tokens_as : {A : Type 0} (f : Data → A) (depth : ℕ) (ts r : List Token) (x : A) → value_as f depth ts ≡ Some (x, r)
    → (own : List Token) × (ts ≡ own ++ r) × (are_good own ≡ true) × ((more : List Token) → value_as f depth (own ++ more) ≡ Some (x, more))
own_tokens_as f depth ts r x e =
    let d = as_some f (converted of_json (value depth ts)) x r e in
    let j = converted_some of_json (value depth ts) d.0 r d.1 in
    let own = own_tokens depth ts r j.0 j.1 in
    let reads : (more : List Token) → value_as f depth (own.0 ++ more) ≡ Some (x, more) = λ more. ap (λ o. parse_map f (converted of_json o)) (own.2.reads more) ∙ ap (λ o. parse_map f (option_map (λ b. (b, more)) o)) j.2 ∙ ap (λ y. Some (y, more)) d.2 in
    (own.0, own.1, own.2.good, reads)
