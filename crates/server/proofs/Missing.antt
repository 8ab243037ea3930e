-- How many connections are without a session.
use Rattle.std.proofs.Common.{◌≡◌, ℕ, ◌+◌, ◌<◌, ◌≤◌, map, List, [], ◌∷◌, ◌++◌, length, refl, ap, ◌∙◌, arith, All, Option, None, Some}
use Rattle.std.specs.List.{flat_map}
use Rattle.std.proofs.lemmas.List.{map-append, length-map, length-append}
use Rattle.std.proofs.lemmas.List.Elements.{All-tail}
use mathlib.Core.Logic.{dite}
use native.Mathlib.Decide.{ℕ_discrete, dec_le}
use Rattle.turn_desk.specs.Numbers.{times_in, IsAmong}
use Rattle.turn_desk.proofs.Numbers.{times-append, among_single, not_single, no_fewer}
use Rattle.server.specs.declared.counter.Drawn.{Drawn}
use Rattle.server.specs.declared.place.Stop.{Stop}
use Rattle.server.specs.declared.worker.Session.{Session}
use Rattle.server.specs.Counter.{Whole}
use Rattle.server.specs.Work.{session_numbers}
use Rattle.server.specs.Gathering.{fault_of, faults_from}
use Rattle.server.proofs.Gathers.{below_of}

-- what a worker's end says of the numbers that it has drawn
pub record HasDrawn {E : Type 0} (n : ℕ) (drawn : Drawn) (sessions : List (Session E)) (stop : Option Stop) : Type 0 where
  pub last : ℕ
  pub numbers : drawn.numbers ≡ session_numbers sessions ++ last ∷ []
  pub below : All (λ s. s.number < n) sessions
  pub ran_out : stop ≡ None → n ≤ last
  pub stopped : (x : Stop) → stop ≡ Some x → last < n

-- the connections that were drawn: those of the sessions, and one for each fault
record Accounted (n : ℕ) (drawn sessions : List ℕ) (faults : ℕ) : Type 0 where
  list : List ℕ
  count : length list ≡ length sessions + faults
  below : (k : ℕ) → IsAmong k list → k < n
  all : (k : ℕ) → k < n → times_in k drawn ≤ times_in k list

module _ {A E : Type 0} (drawn : A → Drawn) (sessions : A → List (Session E)) (stop : A → Option Stop) (n : ℕ) where
  one_place : (w : ℕ) (p : A) → HasDrawn n (drawn p) (sessions p) (stop p) → Accounted n (drawn p).numbers (session_numbers (sessions p)) (length (fault_of w (stop p)))
  one_place w p d = let s = session_numbers (sessions p) in let e = λ (k : ℕ). ap (times_in k) d.numbers ∙ times-append k s (d.last ∷ []) in
      elim (stop p) as (λ z. stop p ≡ z → Accounted n (drawn p).numbers s (length (fault_of w z))) [
        | None ↦ λ is. record { list = s; count = omega arith; below = below_of n (sessions p) d.below; all = λ k lt. let x = e k in let o = d.ran_out is in let y = not_single k d.last (λ q. omega arith) in omega arith }
        | Some x ↦ λ is. record {
          list = s ++ d.last ∷ [];
          count = let l = length-append s (d.last ∷ []) in omega arith;
          below = λ k h. let a = times-append k s (d.last ∷ []) in dite (ℕ_discrete k d.last) (λ q. let lt = d.stopped x is in omega arith)
              (λ ne. let z = not_single k d.last ne in below_of n (sessions p) d.below k (omega arith));
          all = λ k lt. let x = e k in let y = times-append k s (d.last ∷ []) in omega arith;
        }
      ] refl

  accounted : (w : ℕ) (l : List A) → All (λ p. HasDrawn n (drawn p) (sessions p) (stop p)) l → Accounted n (flat_map (λ p. (drawn p).numbers) l) (session_numbers (flat_map sessions l)) (length (faults_from w (map stop l)))
  accounted w [] h = record { list = []; count = refl; below = λ k t. absurd (omega arith); all = λ k lt. omega arith }
  accounted w (p ∷ l) h = let a = one_place w p (h 0 p (omega arith)) in let b = accounted (w + 1) l (All-tail (λ p. HasDrawn n (drawn p) (sessions p) (stop p)) p l h) in record {
    list = a.list ++ b.list;
    count = let x = length-append a.list b.list in let y = a.count in let z = b.count in let u = length-append (fault_of w (stop p)) (faults_from (w + 1) (map stop l)) in
        let v : length (session_numbers (flat_map sessions (p ∷ l))) ≡ length (session_numbers (sessions p)) + length (session_numbers (flat_map sessions l)) =
        ap length (map-append (λ (s : Session E). s.number) (sessions p) (flat_map sessions l)) ∙ length-append (session_numbers (sessions p)) (session_numbers (flat_map sessions l)) in omega arith;
    below = λ k t. let x = times-append k a.list b.list in dite (ℕ_discrete (times_in k a.list) 0) (λ z. b.below k (omega arith)) (λ ne. a.below k (omega arith));
    all = λ k lt. let x = times-append k a.list b.list in let y = times-append k (drawn p).numbers (flat_map (λ p. (drawn p).numbers) l) in let u = a.all k lt in let v = b.all k lt in omega arith;
  }

  -- if there are fewer faults than workers, some worker drew a number that is no connection's
  some_ran_out : (w : ℕ) (l : List A) → All (λ p. HasDrawn n (drawn p) (sessions p) (stop p)) l → length (faults_from w (map stop l)) < length l → (k : ℕ) × (n ≤ k) × IsAmong k (flat_map (λ p. (drawn p).numbers) l)
  some_ran_out w [] h few = absurd (omega arith)
  some_ran_out w (p ∷ l) h few = let d = h 0 p (omega arith) in let s = session_numbers (sessions p) in let u = length-append (fault_of w (stop p)) (faults_from (w + 1) (map stop l)) in
      elim (stop p) as (λ z. stop p ≡ z → (k : ℕ) × (n ≤ k) × IsAmong k (flat_map (λ p. (drawn p).numbers) (p ∷ l))) [
        | None ↦ λ is. (d.last, d.ran_out is, let x = ap (times_in d.last) d.numbers ∙ times-append d.last s (d.last ∷ []) in let y = among_single d.last d.last refl in let z = times-append d.last (drawn p).numbers (flat_map (λ p. (drawn p).numbers) l) in omega arith)
        | Some x ↦ λ is. let one : length (fault_of w (stop p)) ≡ 1 = ap (λ z. length (fault_of w z)) is in
            let r = some_ran_out (w + 1) l (All-tail (λ p. HasDrawn n (drawn p) (sessions p) (stop p)) p l h) (omega arith) in (r.0, r.1, let z = times-append r.0 (drawn p).numbers (flat_map (λ p. (drawn p).numbers) l) in omega arith)
      ] refl

  -- at most as many connections are without a session as there are faults
  pub few_missing : (l : List A) (v : Drawn) → All (λ p. HasDrawn n (drawn p) (sessions p) (stop p)) l → v.numbers ≡ flat_map (λ p. (drawn p).numbers) l → Whole v → length (faults_from 0 (map stop l)) < length l
      → n ≤ length (flat_map sessions l) + length (faults_from 0 (map stop l))
  few_missing l v h is whole few = let a = accounted 0 l h in let r = some_ran_out 0 l h few in
      let at : times_in r.0 v.numbers ≡ times_in r.0 (flat_map (λ p. (drawn p).numbers) l) = ap (times_in r.0) is in
      let larger : n < whole.word = dite (dec_le whole.word r.0) (λ le. let z = whole.unborn r.0 le in absurd (omega arith)) (λ ne. let z = r.1 in omega arith) in
      let all : (k : ℕ) → k < n → IsAmong k a.list = λ k lt. let o = whole.once k (omega arith) in let e = ap (times_in k) is in let m = a.all k lt in omega arith in
      let f = no_fewer n a.list a.below all in let c = a.count in let len : length (session_numbers (flat_map sessions l)) ≡ length (flat_map sessions l) = length-map _ _ in omega arith
