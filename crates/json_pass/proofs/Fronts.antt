-- The value at the front of the tokens, from its outline and the tokens after it.
use Rattle.std.proofs.Common.{◌≡◌, ℕ, ◌-◌, ◌<◌, List, [], ◌∷◌, length, Option, Some, None, option_map, true, false, is_some, true≢false, refl, sym, ap, ◌∙◌}
use Rattle.json.specs.Token.{Token}
use Rattle.json.specs.Json as json
use Rattle.json.specs.Json.{Parse, parse_map, after_end_array, read_key, items, members}
use Rattle.serde_json.specs.Data.{Data, array, object, Items, no_items, item, Members, no_members, put}
use Rattle.serde_json.specs.Data as spec
use Rattle.serde_json.specs.Find.{as_object, as_array}
use Rattle.serde_json.specs.Read.{of_json, of_items, of_members, converted}
use Rattle.json_pass.specs.Value.{value_as, opens_object, opens_array, outline, value_outline}
use Rattle.json_pass.specs.Loops.{after_items, after_members}
use Rattle.json.proofs.Grammar.{left, left-parse_map, value_is, value-begin_array, value-begin_object}
use Rattle.json_pass.proofs.Turns.{converted-array, converted-object, item_read}

abbrev pub outlined : Option (Data × List Token) → Option (Data × List Token)
outlined o = parse_map outline o

abbrev pick : {A : Type 0} → A → Option A → A
pick d None = d
pick d (Some a) = a

pub outline_some : (o : Option (Data × List Token)) (t : Data) (r : List Token) → outlined o ≡ Some (t, r) → (d : Data) × (o ≡ Some (d, r)) × (outline d ≡ t)
outline_some None t r e = absurd (cc)
outline_some (Some p) t r e = let same = ap (pick (t, r)) e in (p.0, ap (λ q. Some (p.0, q.1)) same, ap (λ q. q.0) same)

pub outline_none : (o : Option (Data × List Token)) → outlined o ≡ None → o ≡ None
outline_none None e = refl
outline_none (Some p) e = absurd (cc)

pub outline-array : (o : Option (Items × List Token)) → outlined (parse_map array o) ≡ option_map (λ r. (array no_items, r)) (left o)
outline-array None = refl
outline-array (Some p) = refl

pub outline-object : (o : Option (Members × List Token)) → outlined (parse_map object o) ≡ option_map (λ r. (object no_members, r)) (left o)
outline-object None = refl
outline-object (Some p) = refl

pub array_outline : (depth : ℕ) (ts : List Token) → 0 < depth → value_outline depth (Token.begin_array ∷ ts) ≡ option_map (λ r. (array no_items, r)) (after_items (depth - 1) ts)
array_outline depth ts some = ap (λ o. outlined (converted of_json o)) (value-begin_array depth ts some) ∙ (let o = json.items (json.value (depth - 1)) (length ts) ts in ap outlined (converted-array o) ∙ outline-array (converted of_items o))

pub object_outline : (depth : ℕ) (ts : List Token) → 0 < depth → value_outline depth (Token.begin_object ∷ ts) ≡ option_map (λ r. (object no_members, r)) (after_members (depth - 1) ts)
object_outline depth ts some = ap (λ o. outlined (converted of_json o)) (value-begin_object depth ts some) ∙ (let o = json.members (json.value (depth - 1)) (length ts) ts in ap outlined (converted-object o) ∙ outline-object (converted (λ ms. of_members ms no_members) o))

module _ (p : Parse json.Json) where
  pub pass_item : (n : ℕ) (ts r : List Token) (t : Data) → 0 < n → after_end_array ts ≡ None → outlined (converted of_json (p ts)) ≡ Some (t, r)
      → left (converted of_items (items p n ts)) ≡ left (converted of_items (items p (n - 1) r))
  pass_item n ts r t some going e =
      let d = outline_some (converted of_json (p ts)) t r e in
      ap left (item_read p n ts r d.0 some going d.1) ∙ left-parse_map (item d.0) _

-- ---- any function of the value at the front

pub no_token_as : {A : Type 0} (f : Data → A) (depth : ℕ) → value_as f depth [] ≡ None
no_token_as f depth = ap (λ o. parse_map f (converted of_json o)) (value_is depth [])

pub deep_object_as : {A : Type 0} (f : Data → A) (ts : List Token) → value_as f 0 (Token.begin_object ∷ ts) ≡ None
unfolding json.value
deep_object_as f ts = refl

pub deep_array_as : {A : Type 0} (f : Data → A) (ts : List Token) → value_as f 0 (Token.begin_array ∷ ts) ≡ None
unfolding json.value
deep_array_as f ts = refl

pub unread_as : {A : Type 0} (f : Data → A) (depth : ℕ) (ts : List Token) → value_outline depth ts ≡ None → value_as f depth ts ≡ None
unread_as f depth ts e = ap (parse_map f) (outline_none (converted of_json (json.value depth ts)) e)

pub outlined_as : {A : Type 0} (f : Data → A) (depth : ℕ) (ts r : List Token) (t : Data) (a : A) → value_outline depth ts ≡ Some (t, r) → ((d : Data) → outline d ≡ t → f d ≡ a) → value_as f depth ts ≡ Some (a, r)
outlined_as f depth ts r t a e h = let d = outline_some (converted of_json (json.value depth ts)) t r e in ap (parse_map f) d.1 ∙ ap (λ b. Some (b, r)) (h d.0 d.2)

parse-object : {A : Type 0} (f : Data → A) (o : Option (Members × List Token)) → parse_map f (parse_map object o) ≡ parse_map (λ ms. f (object ms)) o
parse-object f None = refl
parse-object f (Some p) = refl

parse-array : {A : Type 0} (f : Data → A) (o : Option (Items × List Token)) → parse_map f (parse_map array o) ≡ parse_map (λ ds. f (array ds)) o
parse-array f None = refl
parse-array f (Some p) = refl

pub object_as : {A : Type 0} (f : Data → A) (depth : ℕ) (ts : List Token) → 0 < depth
    → value_as f depth (Token.begin_object ∷ ts) ≡ parse_map (λ ms. f (object ms)) (converted (λ ms. of_members ms no_members) (members (json.value (depth - 1)) (length ts) ts))
object_as f depth ts some =
    let o = members (json.value (depth - 1)) (length ts) ts in
    ap (λ q. parse_map f (converted of_json q)) (value-begin_object depth ts some) ∙ ap (parse_map f) (converted-object o) ∙ parse-object f (converted (λ ms. of_members ms no_members) o)

pub array_as : {A : Type 0} (f : Data → A) (depth : ℕ) (ts : List Token) → 0 < depth
    → value_as f depth (Token.begin_array ∷ ts) ≡ parse_map (λ ds. f (array ds)) (converted of_items (items (json.value (depth - 1)) (length ts) ts))
array_as f depth ts some =
    let o = items (json.value (depth - 1)) (length ts) ts in
    ap (λ q. parse_map f (converted of_json q)) (value-begin_array depth ts some) ∙ ap (parse_map f) (converted-array o) ∙ parse-array f (converted of_items o)

-- ---- what begins with no brace is no object, and what begins with no bracket no array

pub opened_object : (t : Token) → opens_object t ≡ true → t ≡ Token.begin_object
opened_object Token.begin_object e = refl
opened_object Token.end_object e = absurd (true≢false (sym e))
opened_object Token.begin_array e = absurd (true≢false (sym e))
opened_object Token.end_array e = absurd (true≢false (sym e))
opened_object (Token.key s) e = absurd (true≢false (sym e))
opened_object (Token.string s) e = absurd (true≢false (sym e))
opened_object (Token.number s) e = absurd (true≢false (sym e))
opened_object (Token.boolean b) e = absurd (true≢false (sym e))
opened_object Token.null e = absurd (true≢false (sym e))
opened_object Token.bad e = absurd (true≢false (sym e))

pub opened_array : (t : Token) → opens_array t ≡ true → t ≡ Token.begin_array
opened_array Token.begin_object e = absurd (true≢false (sym e))
opened_array Token.end_object e = absurd (true≢false (sym e))
opened_array Token.begin_array e = refl
opened_array Token.end_array e = absurd (true≢false (sym e))
opened_array (Token.key s) e = absurd (true≢false (sym e))
opened_array (Token.string s) e = absurd (true≢false (sym e))
opened_array (Token.number s) e = absurd (true≢false (sym e))
opened_array (Token.boolean b) e = absurd (true≢false (sym e))
opened_array Token.null e = absurd (true≢false (sym e))
opened_array Token.bad e = absurd (true≢false (sym e))

pub not_object : (d t : Data) → is_some (as_object t) ≡ false → outline d ≡ t → as_object d ≡ None
not_object spec.null t e f = refl
not_object (spec.boolean b) t e f = refl
not_object (spec.number n) t e f = refl
not_object (spec.string s) t e f = refl
not_object (spec.array ds) t e f = refl
not_object (spec.object ms) t e f = let opened : is_some (as_object t) ≡ true = ap (λ x. is_some (as_object x)) (sym f) in absurd (true≢false (sym opened ∙ e))

pub not_array : (d t : Data) → is_some (as_array t) ≡ false → outline d ≡ t → as_array d ≡ None
not_array spec.null t e f = refl
not_array (spec.boolean b) t e f = refl
not_array (spec.number n) t e f = refl
not_array (spec.string s) t e f = refl
not_array (spec.array ds) t e f = let opened : is_some (as_array t) ≡ true = ap (λ x. is_some (as_array x)) (sym f) in absurd (true≢false (sym opened ∙ e))
not_array (spec.object ms) t e f = refl

-- a function of what another function sees
composed_parse : {A B : Type 0} (f : Data → B) (g : Data → A) (h : A → B) → ((d : Data) → f d ≡ h (g d)) → (o : Option (Data × List Token)) → parse_map f o ≡ parse_map h (parse_map g o)
composed_parse f g h e None = refl
composed_parse f g h e (Some p) = ap (λ b. Some (b, p.1)) (e p.0)

pub composed_as : {A B : Type 0} (f : Data → B) (g : Data → A) (h : A → B) (depth : ℕ) (ts : List Token) → ((d : Data) → f d ≡ h (g d)) → value_as f depth ts ≡ parse_map h (value_as g depth ts)
composed_as f g h depth ts e = composed_parse f g h e (converted of_json (json.value depth ts))

pub as_some : {A : Type 0} (f : Data → A) (o : Option (Data × List Token)) (a : A) (r : List Token) → parse_map f o ≡ Some (a, r) → (d : Data) × (o ≡ Some (d, r)) × (f d ≡ a)
as_some f None a r e = absurd (cc)
as_some f (Some p) a r e = let same = ap (pick (a, r)) e in (p.0, ap (λ q. Some (p.0, q.1)) same, ap (λ q. q.0) same)

pub as_none : {A B : Type 0} (f : A → B) (o : Option (A × List Token)) → parse_map f o ≡ None → o ≡ None
as_none f None e = refl
as_none f (Some p) e = absurd (cc)
