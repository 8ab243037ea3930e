-- What one member more does to the slots.
use Rattle.std.proofs.Common.{◌≡◌, ◌≢◌, ℕ, zero, suc, ◌-◌, ◌<◌, List, [], ◌∷◌, map, length, get_or, slice_set, Bool, true, false, not, ◌&&◌, Option, Some, None, option_map, Bor, bytes_eq, All, replicate, true≢false, refl, sym, ap, ap₂, ◌∙◌, arith}
use Rattle.std.proofs.lemmas.Slice.Eq.{bytes_eq-Decides}
use Rattle.std.proofs.lemmas.Bool.{or_parts}
use Rattle.std.proofs.lemmas.List.Elements.{All-head, All-tail, All-nil, All-cons}
use Rattle.std.specs.List.{list_any}
use Rattle.std.specs.Bool.{MatchBool}
use Rattle.json.specs.Token.{Token}
use Rattle.serde_json.specs.Data.{Data, object, Members, no_members, put}
use Rattle.serde_json.specs.Find.{get_member, as_object}
use Rattle.serde_json.proofs.Views.{get_member-put, get_member-put_other}
use Rattle.json_pass.specs.Value.{outline, value_as}
use Rattle.json.specs.Json.{parse_map}
use Rattle.json_pass.specs.Leaf.{leaf_data}
use Rattle.json_pass.specs.Members.{texts, slot_data, are_distinct, last_values, members_as, wanted_values}
use Rattle.json.specs.Json as json
use Rattle.serde_json.specs.Read.{of_members, converted}
use Rattle.json_pass.proofs.Fronts.{object_as}
use Rattle.json_pass.specs.declared.leaf.Leaf.{Leaf}

text_at : (names : List (Bor (List ℕ))) (i : ℕ) (d : Bor (List ℕ)) → i < length names → get_or (texts names) i [] ≡ (get_or names i d).now
text_at [] i d h = absurd (omega arith)
text_at (n ∷ names) zero d h = refl
text_at (n ∷ names) (suc i) d h = text_at names i d (omega arith)

pub equal_texts : (xs ys : List ℕ) (b : Bool) → b ≡ bytes_eq xs ys → MatchBool b (xs ≡ ys) (xs ≢ ys)
equal_texts xs ys true e = (bytes_eq-Decides xs ys).0 (sym e)
equal_texts xs ys false e = λ same. (let t = (bytes_eq-Decides xs ys).1 same in true≢false (sym t ∙ sym e))

pub name_at : (names : List (Bor (List ℕ))) (i : ℕ) (d : Bor (List ℕ)) (name : List ℕ) (b : Bool) → i < length names → b ≡ bytes_eq (get_or names i d).now name
    → MatchBool b (get_or (texts names) i [] ≡ name) (get_or (texts names) i [] ≢ name)
name_at names i d name b h e = rw (text_at names i d h) (equal_texts (get_or names i d).now name b e)

unequal : (xs ys : List ℕ) → bytes_eq xs ys ≡ false → xs ≢ ys
unequal xs ys e same = true≢false (sym ((bytes_eq-Decides xs ys).1 same) ∙ e)

lacks : (name : List ℕ) (names : List (List ℕ)) → list_any (bytes_eq name) names ≡ false → All (λ other. other ≢ name) names
lacks name [] e = All-nil _
lacks name (n ∷ names) e =
    let parts = or_parts (bytes_eq name n) (list_any (bytes_eq name) names) e in
    let first : n ≢ name = λ same. unequal name n parts.0 (sym same) in
    All-cons (λ other. other ≢ name) n names first (lacks name names parts.1)

both : (a b : Bool) → (not a && b) ≡ true → (a ≡ false) × (b ≡ true)
both true b e = absurd (true≢false (sym e))
both false true e = (refl, refl)
both false false e = absurd (true≢false (sym e))

pub values_other : (names : List (List ℕ)) (k : List ℕ) (d : Data) (ms : Members) → All (λ other. other ≢ k) names → last_values names (put k d ms) ≡ last_values names ms
values_other [] k d ms h = refl
values_other (n ∷ names) k d ms h = ap₂ (λ a b. option_map outline a ∷ b) (get_member-put_other n k d ms (All-head (λ other. other ≢ k) n names h)) (values_other names k d ms (All-tail (λ other. other ≢ k) n names h))

pub values_here : (names : List (List ℕ)) (k : List ℕ) (d : Data) (ms : Members) (place : ℕ) → are_distinct names ≡ true → place < length names → get_or names place [] ≡ k
    → last_values names (put k d ms) ≡ slice_set (last_values names ms) place (Some (outline d))
values_here [] k d ms place h l e = absurd (omega arith)
values_here (n ∷ names) k d ms zero h l e =
    let parts = both (list_any (bytes_eq n) names) (are_distinct names) h in
    let rest : All (λ other. other ≢ k) names = rw (← e) (lacks n names parts.0) in
    let first : get_member n (put k d ms) ≡ Some d = rw e (get_member-put k d ms) in
    ap₂ (λ a b. option_map outline a ∷ b) first (values_other names k d ms rest)
values_here (n ∷ names) k d ms (suc i) h l e =
    let parts = both (list_any (bytes_eq n) names) (are_distinct names) h in
    let less : i < length names = omega arith in
    let other : n ≢ k = λ same. lacks n names parts.0 i [] less (e ∙ sym same) in
    ap₂ (λ a b. option_map outline a ∷ b) (get_member-put_other n k d ms other) (values_here names k d ms i parts.1 less e)

pub values_none : (names : List (List ℕ)) → last_values names no_members ≡ replicate (length names) None
values_none [] = refl
values_none (n ∷ names) = ap (λ rest. None ∷ rest) (values_none names)

map_replicate : {A B : Type 0} (f : A → B) (n : ℕ) (a : A) → map f (replicate n a) ≡ replicate n (f a)
map_replicate f zero a = refl
map_replicate f (suc n) a = ap (λ rest. f a ∷ rest) (map_replicate f n a)

length_replicate : {A : Type 0} (n : ℕ) (a : A) → length (replicate n a) ≡ n
length_replicate zero a = refl
length_replicate (suc n) a = ap suc (length_replicate n a)

pub length_texts : (names : List (Bor (List ℕ))) → length (texts names) ≡ length names
length_texts [] = refl
length_texts (n ∷ names) = ap suc (length_texts names)

map_slice_set : {A B : Type 0} (f : A → B) (xs : List A) (i : ℕ) (y : A) → map f (slice_set xs i y) ≡ slice_set (map f xs) i (f y)
map_slice_set f [] zero y = refl
map_slice_set f [] (suc i) y = refl
map_slice_set f (x ∷ xs) zero y = refl
map_slice_set f (x ∷ xs) (suc i) y = ap (λ rest. f x ∷ rest) (map_slice_set f xs i y)

pub slots_start : (names : List (Bor (List ℕ))) (slots : List (Option Leaf)) (n : ℕ) → slots ≡ replicate n None → n ≡ length names
    → (map slot_data slots ≡ last_values (texts names) no_members) × (length slots ≡ length names)
slots_start names slots n e f =
    let same : n ≡ length (texts names) = f ∙ sym (length_texts names) in
    (ap (map slot_data) e ∙ map_replicate slot_data n None ∙ ap (λ m. replicate m None) same ∙ sym (values_none (texts names)), ap length e ∙ length_replicate n None ∙ f)

pub slots_set : (names : List (List ℕ)) (slots : List (Option Leaf)) (k : List ℕ) (d : Data) (leaf : Leaf) (ms : Members) (place : ℕ)
    → map slot_data slots ≡ last_values names ms → outline d ≡ leaf_data leaf → are_distinct names ≡ true → place < length names → get_or names place [] ≡ k
    → map slot_data (slice_set slots place (Some leaf)) ≡ last_values names (put k d ms)
slots_set names slots k d leaf ms place e f h l is =
    map_slice_set slot_data slots place (Some leaf) ∙ ap₂ (λ s v. slice_set s place (Some v)) e (sym f) ∙ sym (values_here names k d ms place h l is)

pub wanted_in_object : (names : List (List ℕ)) (o : Option (Members × List Token)) → parse_map (λ ms. wanted_values names (object ms)) o ≡ parse_map Some (parse_map (last_values names) o)
wanted_in_object names None = refl
wanted_in_object names (Some p) = refl

pub no_wanted_values : (names : List (List ℕ)) (d : Data) → as_object d ≡ None → wanted_values names d ≡ None
no_wanted_values names d e = ap (option_map (last_values names)) e

pub wanted_values_as : (names : List (List ℕ)) (depth : ℕ) (ts : List Token) → 0 < depth → value_as (wanted_values names) depth (Token.begin_object ∷ ts) ≡ parse_map Some (members_as (last_values names) (depth - 1) ts)
wanted_values_as names depth ts some =
    let o = json.members (json.value (depth - 1)) (length ts) ts in
    object_as (wanted_values names) depth ts some ∙ wanted_in_object names (converted (λ ms. of_members ms no_members) o)
