-- What one turn of a worker leaves.
use Rattle.std.proofs.Common.{◌≡◌, ℕ, ◌<◌, List, [], ◌∷◌, ◌++◌, length, sym, refl, ap, ◌∙◌, subst, arith, All, Option}
use Rattle.std.specs.List.{AllZip}
use Rattle.std.proofs.lemmas.List.{append-nil, append_assoc, map_push}
use Rattle.std.proofs.lemmas.List.Elements.{All-tail, All-push, All-nil}
use mathlib.Core.List.{IsPrefix}
use Rattle.one_history.specs.declared.entry.Entry.{Entry}
use Rattle.turn_desk.specs.declared.view.View.{View}
use Rattle.turn_desk.specs.declared.view.Kept.{Kept}
use Rattle.turn_desk.specs.View.{own_of, numbers_in}
use Rattle.turn_desk.specs.Calls.{Makes, TakesIn, Continues}
use Rattle.server.specs.declared.counter.Drawn.{Drawn}
use Rattle.server.specs.declared.place.Stop.{Stop}
use Rattle.server.specs.declared.worker.Session.{Session}
use Rattle.server.specs.Counter.{above}
use Rattle.server.specs.Serving.{calls_gained}
use Rattle.server.specs.Work.{Follows, IsSessionOf, session_numbers}
use Rattle.server.specs.Place.{Serves, Going, IsReady}
use Rattle.server.proofs.CounterSteps.{above_none}

-- the numbers of sessions are connections'
pub none_above : {E : Type 0} (n : ℕ) (sessions : List (Session E)) → All (λ s. s.number < n) sessions → above n (session_numbers sessions) ≡ 0
none_above n [] h = refl
none_above n (s ∷ ss) h = let x = above_none n s.number (h 0 s (omega arith)) in let y = none_above n ss (All-tail (λ s. s.number < n) s ss h) in omega arith

pub zip_push : {A B : Type 0} (R : A → B → Type 0) (xs : List A) (ys : List B) (x : A) (y : B) → AllZip R xs ys → R x y → AllZip R (xs ++ x ∷ []) (ys ++ y ∷ [])
zip_push R [] [] x y h r = (r, tt)
zip_push R [] (b ∷ ys) x y h r = absurd h
zip_push R (a ∷ xs) [] x y h r = absurd h
zip_push R (a ∷ xs) (b ∷ ys) x y h r = (h.0, zip_push R xs ys x y h.1 r)

pub prefix_on : {A : Type 0} (xs ys zs : List A) → IsPrefix xs ys → IsPrefix ys zs → IsPrefix xs zs
prefix_on xs ys zs p q = (p.0 ++ q.0, sym (append_assoc xs p.0 q.0) ∙ (ap (λ l. l ++ q.0) p.1 ∙ q.1))

module _ {M : Type 0} where
  pub follows_on : (u v w : View M) → Follows u v → Follows v w → Follows u w
  follows_on u v w a b = record { number = b.number ∙ a.number; calls = b.calls ∙ a.calls; seen = prefix_on u.seen v.seen w.seen a.seen b.seen }

  pub follows_made : (v new w : View M) → Continues v w → Makes v new w → Follows v w
  follows_made v new w c m = record { number = c.number; calls = m.calls; seen = c.seen }

  pub follows_joined : (v other w : View M) → TakesIn v other w → Follows v w
  follows_joined v other w j = record { number = j.number; calls = j.calls; seen = j.seen }

module _ {E M : Type 0} (relates : E → ℕ → ℕ → List (Entry M) → Type 0) where
  -- the worker's pass v made the pass a, which was served and is then b, and was taken in again
  pub one_more : (n : ℕ) (sessions : List (Session E)) (s : Session E) (v w a b u : View M) → Serves relates n sessions v → Continues v w → Makes v a w
      → b.number ≡ a.number → b.made_from ≡ a.made_from → b.taken_in ≡ a.taken_in → relates s.end a.number (calls_gained a b) b.seen → TakesIn w b u
      → s.caller ≡ b.number → s.number < n → Serves relates n (sessions ++ s ∷ []) u
  one_more n sessions s v w a b u h c m number made_from taken_in r j caller below =
      let nothing_in : b.taken_in ≡ [] = taken_in ∙ ap (λ z. z.taken_in) m.new_is in
      let nothing_made : b.made_from ≡ [] = made_from ∙ ap (λ z. z.made_from) m.new_is in
      let no_calls : length a.calls ≡ 0 = ap (λ z. length z.calls) m.new_is in
      let taken : u.taken_in ≡ v.taken_in ++ own_of b ∷ [] = j.taken_in ∙ (λ i. c.taken_in i ++ own_of b ∷ nothing_in i) in
      let made : u.made_from ≡ v.made_from ++ a.number ∷ [] = j.made_from ∙ ((λ i. w.made_from ++ nothing_made i) ∙ (append-nil w.made_from ∙ m.made_from)) in
      record {
        taken_in = subst (AllZip (IsSessionOf relates) (sessions ++ s ∷ [])) (sym taken) (zip_push (IsSessionOf relates) sessions v.taken_in s (own_of b) h.taken_in record {
          caller = sym caller;
          end = subst (λ z. relates s.end z (length b.calls) b.seen) (sym number ∙ sym caller) (subst (λ calls. relates s.end a.number calls b.seen) (omega arith) r);
        });
        below = All-push (λ s. s.number < n) sessions s h.below below;
        made_from = made ∙ ((λ i. h.made_from i ++ sym number i ∷ []) ∙ (sym (map_push (λ k. k.number) v.taken_in (own_of b)) ∙ ap numbers_in (sym taken)));
        calls = j.calls ∙ (m.calls ∙ h.calls);
      }

  pub may_draw : (n : ℕ) (sessions : List (Session E)) (drawn : Drawn) (v : View M) → Going relates n sessions drawn v → above drawn.connections drawn.numbers < drawn.parts
  may_draw n sessions drawn v h = let z : above drawn.connections drawn.numbers ≡ 0 = (λ i. above (h.connections_are i) (h.numbers i)) ∙ none_above n sessions h.serves.below in let p = h.parts in omega arith

  pub goes_on : (n : ℕ) (sessions more : List (Session E)) (s : Session E) (drawn drawn' : Drawn) (k : ℕ) (v w a b u : View M) → Going relates n sessions drawn v
      → drawn' ≡ record drawn { numbers = drawn.numbers ++ k ∷ [] } → more ≡ sessions ++ s ∷ [] → s.number ≡ k → k < n → s.caller ≡ b.number
      → Continues v w → Makes v a w → b.number ≡ a.number → b.made_from ≡ a.made_from → b.taken_in ≡ a.taken_in → relates s.end a.number (calls_gained a b) b.seen → TakesIn w b u
      → Going relates n more drawn' u
  goes_on n sessions more s drawn drawn' k v w a b u h d pushed same lt caller c m number made_from taken_in r j = record {
    connections_are = ap (λ z. z.connections) d ∙ h.connections_are;
    parts = ap (λ z. z.parts) d ∙ h.parts;
    splits = ap (λ z. z.splits) d ∙ h.splits;
    numbers = ap (λ z. z.numbers) d ∙ ((λ i. h.numbers i ++ sym same i ∷ []) ∙ (sym (map_push (λ s. s.number) sessions s) ∙ ap session_numbers (sym pushed)));
    serves = subst (λ z. Serves relates n z u) (sym pushed) (one_more n sessions s v w a b u h.serves c m number made_from taken_in r j caller (subst (λ z. z < n) (sym same) lt));
  }

  pub ready_going : (n : ℕ) (sessions : List (Session E)) (drawn : Drawn) (v : View M) (stop : Option Stop) → IsReady n sessions drawn v stop → Going relates n sessions drawn v
  ready_going n sessions drawn v stop r = record {
    connections_are = r.connections_are;
    parts = r.parts;
    splits = r.splits;
    numbers = r.numbers ∙ sym (ap session_numbers r.no_sessions);
    serves = record {
      taken_in = subst (λ (z : List (Session E) × List (Kept M)). AllZip (IsSessionOf relates) z.0 z.1) (λ i. (sym r.no_sessions i, sym r.taken_in i)) tt;
      below = subst (λ z. All (λ s. s.number < n) z) (sym r.no_sessions) (All-nil (λ s. s.number < n));
      made_from = r.made_from ∙ sym (ap numbers_in r.taken_in);
      calls = r.calls;
    };
  }
