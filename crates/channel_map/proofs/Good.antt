-- Every direction that is read from an entry is good.
use Rattle.std.proofs.Common.{◌≡◌, ◌≢◌, ℕ, ◌≤◌, nat_le, List, bytes_eq, Bool, true, false, All, Option, Some, None, Result, Ok, Err, IfOk, IfSome, option_map, option_and_then, if◌then◌else◌, refl, sym, subst, ◌∙◌, arith, true≢false}
use Rattle.std.specs.Prelude.{codes}
use Rattle.std.specs.Option.{option_or}
use Rattle.std.proofs.lemmas.Bool.Decides.{nat_tests}
use Rattle.std.proofs.lemmas.List.Elements.{All-nil, All-cons}
use Rattle.std.proofs.lemmas.Slice.Eq.{bytes_eq-Decides}
use Rattle.plan_base.specs.Amount.{at_most_max, msat_number}
use Rattle.plan_base.specs.declared.amount.TheConstants.{MAX}
use Rattle.serde_json.specs.Data as json
use Rattle.serde_json.specs.Data.{Data, Items, no_items, item, Members, boolean, number, string, array, object}
use Rattle.serde_json.specs.Find.{get_member, as_object, as_u64}
use Rattle.channel_map.specs.declared.fault.Field.{Field}
use Rattle.channel_map.specs.declared.fault.Field.TheVariants.{Source, Destination, ShortChannelId, Direction, Amount, Active, BaseFee, FeePerMillionth, Delay, HtlcMinimum, HtlcMaximum}
use Rattle.channel_map.specs.declared.edge.Edge.{Edge}
use Rattle.channel_map.specs.Edge.{side_between, IsGoodEdge}
use Rattle.channel_map.specs.Keys.{node_value, other_than, other_node_value, scid_value, same_side, whole_number, side_value, amount_of, amount_value, amount_or, active_value, whole_value}
use Rattle.channel_map.specs.Entry.{EntryValues, values_in, or_bad, edge_of, entry_of}
use Rattle.channel_map.specs.Channels.{Gathered, before, gathered_of, array_entries, channels_in, channels_within, listed_in, listed_entries}

-- ---- the value of one key

limited : (n m : ℕ) (b : Bool) → nat_le n MAX ≡ b → (if b then Some n else None) ≡ Some m → m ≤ MAX
limited n m true is e = let same : n ≡ m = cc in grind (arith, nat_tests)
limited n m false is e = absurd (cc)

at_most_max_fits : (o : Option ℕ) (m : ℕ) → option_and_then at_most_max o ≡ Some m → m ≤ MAX
at_most_max_fits None m e = absurd (cc)
at_most_max_fits (Some n) m e = limited n m (nat_le n MAX) refl e

amount_fits : (d : Data) (m : ℕ) → amount_of d ≡ Some m → m ≤ MAX
amount_fits json.null m e = absurd (cc)
amount_fits (boolean b) m e = absurd (cc)
amount_fits (number n) m e = at_most_max_fits (as_u64 n) m e
amount_fits (string s) m e = at_most_max_fits (msat_number s) m e
amount_fits (array ds) m e = absurd (cc)
amount_fits (object ms) m e = absurd (cc)

value_fits : (o : Option Data) (m : ℕ) → amount_value o ≡ Some m → m ≤ MAX
value_fits None m e = absurd (cc)
value_fits (Some d) m e = amount_fits d m e

default_fits : (default : ℕ) (o : Option Data) (m : ℕ) → default ≤ MAX → amount_or default o ≡ Some m → m ≤ MAX
default_fits default None m h e = let same : default ≡ m = cc in omega arith
default_fits default (Some d) m h e = amount_fits d m e

one_side : (side n m : ℕ) (b : Bool) → (if b then Some side else None) ≡ Some m → m ≡ side
one_side side n m true e = cc
one_side side n m false e = absurd (cc)

side_given : (side m : ℕ) (o : Option ℕ) → option_and_then (same_side side) o ≡ Some m → m ≡ side
side_given side m None e = absurd (cc)
side_given side m (Some n) e = one_side side n m _ e

side_is : (side : ℕ) (o : Option Data) (m : ℕ) → side_value side o ≡ Some m → m ≡ side
side_is side None m e = cc
side_is side (Some d) m e = side_given side m (whole_number d) e

apart : (source node other : List ℕ) (b : Bool) → bytes_eq node source ≡ b → (if b then None else Some node) ≡ Some other → source ≢ other
apart source node other true is e = absurd (cc)
apart source node other false is e = λ same.
    (let one : node ≡ source = (let f : node ≡ other = cc in f ∙ sym same) in
    true≢false (sym ((bytes_eq-Decides node source).1 one) ∙ is))

ends_differ : (source other : List ℕ) (o : Option (List ℕ)) → option_and_then (other_than source) o ≡ Some other → source ≢ other
ends_differ source other None e = absurd (cc)
ends_differ source other (Some node) e = apart source node other (bytes_eq node source) refl e

-- ---- an entry

if_good : {A B : Type 0} (P : B → Type 0) (field : Field) (o : Option A) (next : A → Result B Field) → ((a : A) → o ≡ Some a → IfOk (next a) P) → IfOk (or_bad field o next) P
if_good P field None next h = tt
if_good P field (Some a) next h = h a refl

good_edge : (it : EntryValues) → IfOk (edge_of it) IsGoodEdge
good_edge it =
    if_good IsGoodEdge Source (node_value it.source) _ (λ source e1.
    if_good IsGoodEdge Destination (other_node_value source it.destination) _ (λ destination e2.
    if_good IsGoodEdge ShortChannelId (scid_value it.short_channel_id) _ (λ scid e3.
    if_good IsGoodEdge Direction (side_value (side_between source destination) it.direction) _ (λ side e4.
    if_good IsGoodEdge Amount (amount_value it.amount) _ (λ capacity e5.
    if_good IsGoodEdge Active (active_value it.active) _ (λ enabled e6.
    if_good IsGoodEdge BaseFee (whole_value 4294967295 it.base_fee) _ (λ base e7.
    if_good IsGoodEdge FeePerMillionth (whole_value 4294967295 it.fee_per_millionth) _ (λ ppm e8.
    if_good IsGoodEdge Delay (whole_value 65535 it.delay) _ (λ delay e9.
    if_good IsGoodEdge HtlcMinimum (amount_or 0 it.htlc_minimum) _ (λ htlc_min e10.
    if_good IsGoodEdge HtlcMaximum (amount_or capacity it.htlc_maximum) _ (λ htlc_max e11.
    record {
      capacity_fits = value_fits it.amount capacity e5;
      minimum_fits = default_fits 0 it.htlc_minimum htlc_min (omega arith) e10;
      maximum_fits = default_fits capacity it.htlc_maximum htlc_max (value_fits it.amount capacity e5) e11;
      ends_differ = ends_differ source destination (node_value it.destination) e2;
      side_fits = side_is (side_between source destination) it.direction side e4;
    })))))))))))

good_entry : (d : Data) → IfOk (entry_of d) IsGoodEdge
good_entry json.null = tt
good_entry (boolean b) = tt
good_entry (number n) = tt
good_entry (string s) = tt
good_entry (array ds) = tt
good_entry (object ms) = good_edge (values_in ms)

-- ---- a list of entries

good_before : (entry : Result Edge Field) (more : Gathered) → IfOk entry IsGoodEdge → All IsGoodEdge more.0 → All IsGoodEdge (before entry more).0
good_before (Ok edge) more h rest = All-cons IsGoodEdge edge more.0 h rest
good_before (Err field) more h rest = All-nil IsGoodEdge

good_gathered : (ds : Items) → All IsGoodEdge (gathered_of ds).0
good_gathered no_items = All-nil IsGoodEdge
good_gathered (item d ds) = good_before (entry_of d) (gathered_of ds) (good_entry d) (good_gathered ds)

abbrev IsGoodList : Option Gathered → Type 0
IsGoodList o = IfSome o (λ found. All IsGoodEdge found.0)

good_array : (d : Data) → IsGoodList (array_entries d)
good_array json.null = tt
good_array (boolean b) = tt
good_array (number n) = tt
good_array (string s) = tt
good_array (array ds) = good_gathered ds
good_array (object ms) = tt

good_then : {X : Type 0} (f : X → Option Gathered) (o : Option X) → ((x : X) → IsGoodList (f x)) → IsGoodList (option_and_then f o)
good_then f None h = tt
good_then f (Some x) h = h x

good_or : (a b : Option Gathered) → IsGoodList a → IsGoodList b → IsGoodList (option_or a b)
good_or None b g h = h
good_or (Some found) b g h = g

good_channels : (ms : Members) → IsGoodList (channels_in ms)
good_channels ms = good_then array_entries (get_member (codes "channels") ms) good_array

good_within : (d : Data) → IsGoodList (channels_within d)
good_within d = good_then channels_in (as_object d) good_channels

good_listed_in : (ms : Members) → IsGoodList (listed_in ms)
good_listed_in ms = good_or _ _ (good_channels ms) (good_then channels_within (get_member (codes "result") ms) good_within)

good_listed : (d : Data) → IsGoodList (listed_entries d)
good_listed d = good_then listed_in (as_object d) good_listed_in

pub good_found : (value : Option Data) (found : Gathered) → option_map listed_entries value ≡ Some (Some found) → All IsGoodEdge found.0
good_found None found e = absurd (cc)
good_found (Some d) found e = let is : listed_entries d ≡ Some found = cc in subst IsGoodList is (good_listed d)
