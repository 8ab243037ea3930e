-- All that is said of the answer of workers, from what its steps say.
use Rattle.std.proofs.Common.{◌≡◌, ℕ, zero, suc, ◌+◌, ◌-◌, ◌^◌, ◌<◌, ◌≤◌, map, List, [], ◌∷◌, ◌++◌, length, sym, refl, ap, ◌∙◌, subst, arith, All, get_or}
use Rattle.std.specs.List.{flat_map, sum_by}
use Rattle.std.specs.List.Sorted.{IsPermutation, IsNonDecreasingBy, IsStrictlyIncreasing}
use Rattle.std.proofs.lemmas.List.{length-map, get_or-map, map-append}
use Rattle.std.proofs.lemmas.List.Elements.{All-nil, All-cons}
use Rattle.std.proofs.lemmas.List.Sums.{sum_by-cons}
use Rattle.std.proofs.lemmas.List.Sorted.{All-permutation, length_permutation}
use mathlib.Core.Logic.{dite}
use native.Mathlib.Decide.{dec_le}
use Rattle.atomic_table.specs.Seated.{TableId}
use Rattle.one_history.specs.declared.entry.Entry.{Entry}
use Rattle.turn_desk.specs.Numbers.{times_in, AreDistinct}
use Rattle.turn_desk.specs.Rule.{total}
use Rattle.turn_desk.specs.View.{own_of, kept_by, numbers_in, numbers_of}
use Rattle.turn_desk.specs.declared.view.View.{View}
use Rattle.turn_desk.specs.declared.view.Kept.{Kept}
use Rattle.turn_desk.proofs.Numbers.{times-append}
use Rattle.server.specs.declared.counter.Drawn.{Drawn}
use Rattle.server.specs.declared.place.Place.{Place}
use Rattle.server.specs.declared.worker.Session.{Session}
use Rattle.server.specs.declared.worker.Worker.{Worker}
use Rattle.server.specs.declared.worker.WorkFault.{WorkFault}
use Rattle.server.specs.Counter.{Whole}
use Rattle.server.specs.Work.{Follows, HasAccepted, HasPass, HasRisenCount, NoneFell, fault_workers, worker_of, OthersAreSilent, TakesBack, callers_of, session_numbers, taken_since}
use Rattle.server.specs.Place.{IsReady, MayRun, Ran, Serves}
use Rattle.server.specs.Gathering.{Drew, faults_from}
use Rattle.server.specs.Works.{IsPreparedFrom, Works}
use Rattle.server.proofs.Turns.{follows_on, ready_going}
use Rattle.server.proofs.Gathers.{drew_times, drew_below}
use Rattle.server.proofs.Missing.{HasDrawn, few_missing}
use Rattle.server.proofs.Faults.{faults_ascend, causes_of, workers_few, sums_rise}
use Rattle.server.proofs.Finals.{same_map, length_flat, all_have, callers_taken, all_silent, made_taken, since_is, takes_back}
use Rattle.server.proofs.Sorting.{times_permutation, strictly, silent_sorted}

total_one : {A : Type 0} (f : A → ℕ) (l : List A) → All (λ p. f p ≡ 1) l → total f l ≡ length l
total_one f [] h = refl
total_one f (p ∷ l) h = let a : f p ≡ 1 = h 0 p (omega arith) in let b = total_one f l (λ j x lt. h (suc j) x (omega arith)) in omega arith

total_as_sum : {A B : Type 0} (f : A → B) (g : B → ℕ) (l : List A) → sum_by g (map f l) ≡ sum_by (λ x. g (f x)) l
total_as_sum f g [] = refl
total_as_sum f g (x ∷ l) = let a = sum_by-cons g (f x) (map f l) in let b = sum_by-cons (λ x. g (f x)) x l in let c = total_as_sum f g l in omega arith

pub tells_all : (parts splits before places n : ℕ) → parts ≡ 1 + n → n ≡ places → before ≤ splits → before + places ≡ 64 → 65 ≤ parts + splits
tells_all parts splits before places n e f h s = omega arith

module _ {O A C E M R : Type 0} (relates : E → ℕ → ℕ → List (Entry M) → Type 0) (count given : A → ℕ) (n : ℕ) where
  pub may_run : (desk counter : TableId) (places : List (Place O A C E M R)) → All (λ p. p.pass.0 ≡ desk) places → All (λ p. p.drawer.0 ≡ counter) places → All (λ p. IsReady n p.sessions.items p.drawer.1 p.pass.1 p.stop) places → All (MayRun relates n desk counter) places
  may_run desk counter places d s r = λ k x lt. record { on_desk = d k x lt; on_counter = s k x lt; no_sessions = (r k x lt).no_sessions; going = ready_going relates n _ _ _ _ (r k x lt); running = (r k x lt).running }

  -- after the workers have ended
  module _ (ps qs : List (Place O A C E M R)) (len : length qs ≡ length ps) (each : (i : ℕ) (d : Place O A C E M R) → i < length ps → Ran relates count given n (get_or ps i d) (get_or qs i d)) where
    ran : (k : ℕ) (d : Place O A C E M R) → k < length qs → Ran relates count given n (get_or ps k d) (get_or qs k d)
    ran k d lt = each k d (subst (λ n. k < n) len lt)

    pub still_on_desk : (desk : TableId) → All (λ p. p.pass.0 ≡ desk) ps → All (λ p. p.pass.0 ≡ desk) qs
    still_on_desk desk h = λ k d lt. (ran k d lt).desk ∙ h k d (subst (λ n. k < n) len lt)

    pub still_on_counter : (counter : TableId) → All (λ p. p.drawer.0 ≡ counter) ps → All (λ p. p.drawer.0 ≡ counter) qs
    still_on_counter counter h = λ k d lt. (ran k d lt).counter ∙ h k d (subst (λ n. k < n) len lt)

    pub all_drew : All (λ p. Drew n p.drawer.1 p.sessions.items) qs
    all_drew = λ k d lt. let e = (ran k d lt).ended in record { last = e.last; numbers = e.numbers; below = e.serves.below }

    pub all_parts : total (λ p. p.drawer.1.parts) qs ≡ length ps
    all_parts = total_one (λ p. p.drawer.1.parts) qs (λ k d lt. (ran k d lt).ended.parts) ∙ len

    serves : All (λ p. Serves relates n p.sessions.items p.pass.1) qs
    serves = λ k d lt. (ran k d lt).ended.serves

    have_drawn : All (λ p. HasDrawn n p.drawer.1 p.sessions.items p.stop) qs
    have_drawn = λ k d lt. let e = (ran k d lt).ended in record { last = e.last; numbers = e.numbers; below = e.serves.below; ran_out = e.ran_out; stopped = e.stopped }

    none_fell : NoneFell count (map (λ p. p.worker) ps) (map (λ p. p.worker) qs)
    none_fell k d lt = fell ps qs len (λ i x l. (each i x l).never_falls) k d lt
      where
        fell : (xs ys : List (Place O A C E M R)) → length ys ≡ length xs → ((i : ℕ) (x : Place O A C E M R) → i < length xs → count (get_or xs i x).worker.acceptor ≤ count (get_or ys i x).worker.acceptor) → NoneFell count (map (λ p. p.worker) xs) (map (λ p. p.worker) ys)
        fell [] ys e h k d lt = absurd (omega arith)
        fell (a ∷ xs) [] e h k d lt = absurd (omega arith)
        fell (a ∷ xs) (b ∷ ys) e h zero d lt = h 0 a (omega arith)
        fell (a ∷ xs) (b ∷ ys) e h (suc k) d lt = fell xs ys (omega arith) (λ i x l. h (suc i) x (omega arith)) k d (omega arith)

    accepted : HasAccepted given (map (λ p. p.worker) ps) (map (λ p. p.worker) qs) (length (flat_map (λ p. p.sessions.items) qs))
    accepted few = let e = length_flat (λ p. p.sessions.items) qs in let a = total_as_sum (λ (p : Place O A C E M R). p.worker) (λ w. given w.acceptor) ps in let b = total_as_sum (λ (p : Place O A C E M R). p.worker) (λ w. given w.acceptor) qs in
        let s = sums_rise (λ (p : Place O A C E M R). given p.worker.acceptor) (λ p. length p.sessions.items) ps qs (2 ^ 64 - 1) len
        (λ i d lt low. let h = (each i d lt).accepted in omega arith)
        (λ k d lt. subst (λ w. given w.acceptor < 2 ^ 64 - 1) (get_or-map (λ (p : Place O A C E M R). p.worker) qs k d d.worker lt) (few k d.worker (let l = length-map qs (λ (p : Place O A C E M R). p.worker) in omega arith))) in omega arith

    -- the pass was v before the places were made and v1 after, and is w in the end
    module _ (workers : List (Worker A C)) (v v1 w : View M) (prepared : IsPreparedFrom workers v v1 ps) (follows : Follows v1 w) (draws : w.draws ≡ v1.draws)
        (taken_in : w.taken_in ≡ v1.taken_in ++ flat_map (λ p. kept_by p.pass.1) qs) (made_from : w.made_from ≡ v1.made_from ++ flat_map (λ p. p.pass.1.made_from) qs) (distinct : 0 < length qs → AreDistinct (numbers_of w)) where
      abbrev taken : List (Kept M)
      taken = flat_map (λ p. kept_by p.pass.1) qs

      taken_is : w.taken_in ≡ v.taken_in ++ flat_map (λ p. kept_by p.pass.1) qs
      taken_is = taken_in ∙ ap (λ z. z ++ flat_map (λ p. kept_by p.pass.1) qs) prepared.taken_in

      since : taken_since v w ≡ flat_map (λ p. kept_by p.pass.1) qs
      since = since_is v.taken_in w.taken_in _ taken_is

      same_numbers : map (λ p. p.pass.1.number) qs ≡ map (λ p. p.pass.1.number) ps
      same_numbers = same_map (λ (p : Place O A C E M R). p.pass.1.number) ps qs len (λ i d lt. (each i d lt).follows.number)

      back : TakesBack v w
      back = takes_back v w (flat_map (λ p. kept_by p.pass.1) qs) (map (λ p. p.pass.1.number) ps) (flat_map (λ p. p.pass.1.made_from) qs) taken_is (made_from ∙ ap (λ z. z ++ flat_map (λ p. p.pass.1.made_from) qs) prepared.made_from)
          (λ k. ap (λ z. times_in k z + times_in k (flat_map (λ p. p.pass.1.made_from) qs)) (sym same_numbers) ∙ made_taken relates (λ p. p.pass.1) (λ p. p.sessions.items) n qs serves k)

      some : 0 < length qs
      some = let a = ap length prepared.workers_are in let b = length-map ps (λ (p : Place O A C E M R). p.worker) in let c = prepared.some_worker in omega arith

      callers : AreDistinct (callers_of (flat_map (λ p. p.sessions.items) qs))
      callers k = let a = callers_taken relates (λ (p : Place O A C E M R). p.pass.1) (λ p. p.sessions.items) n qs serves k in let b = distinct some k in
          let e = ap (λ z. times_in k (numbers_in z)) taken_is ∙ (ap (times_in k) (map-append (λ (z : Kept M). z.number) v.taken_in taken) ∙ times-append k (numbers_in v.taken_in) (numbers_in taken)) in omega arith

      pub works : (drawn : Drawn) (ss sorted : List (Session E)) (fs : List WorkFault) (back_workers : List (Worker A C))
          → drawn.numbers ≡ flat_map (λ p. p.drawer.1.numbers) qs → Whole drawn → ss ≡ flat_map (λ p. p.sessions.items) qs → fs ≡ faults_from 0 (map (λ p. p.stop) qs) → back_workers ≡ map (λ p. p.worker) qs
          → IsPermutation ss sorted → IsNonDecreasingBy (λ s. s.number) sorted → Works relates count given n workers v (record { pass = w; workers = back_workers; sessions = sorted; faults = fs })
      works drawn ss sorted fs back_workers numbers whole sessions faults after perm up =
          let all : List (Session E) = flat_map (λ p. p.sessions.items) qs in
          let moved : IsPermutation all sorted = subst (λ z. IsPermutation z sorted) sessions perm in
          let once : AreDistinct (flat_map (λ p. p.drawer.1.numbers) qs) = λ k. let e = ap (times_in k) numbers in dite (dec_le whole.word k) (λ le. let x = whole.unborn k le in omega arith) (λ ne. let x = whole.once k (omega arith) in omega arith) in
          let numbers_once : AreDistinct (session_numbers sorted) = λ k. let a = drew_times (λ (p : Place O A C E M R). p.drawer.1) (λ p. p.sessions.items) n qs all_drew k in let b = once k in let c = times_permutation (λ (s : Session E). s.number) all sorted moved k in omega arith in
          let count_is : length sorted ≡ length all = length_permutation all sorted moved in
          let before : map (λ p. p.worker) ps ≡ workers = prepared.workers_are in
          let workers_len : length ps ≡ length workers = sym (length-map ps (λ (p : Place O A C E M R). p.worker)) ∙ ap length before in
          record {
            follows = follows_on v v1 w prepared.follows follows;
            draws = let d = prepared.draws in omega arith;
            takes_back = back;
            distinct = distinct some;
            ascending = strictly (λ s. s.number) sorted up numbers_once;
            below = All-permutation (λ s. s.number < n) all sorted moved (drew_below (λ (p : Place O A C E M R). p.drawer.1) (λ p. p.sessions.items) n qs all_drew);
            callers = λ k. let a = times_permutation (λ (s : Session E). s.caller) all sorted moved k in let b = callers k in omega arith;
            ends = subst (λ z. All (HasPass relates z) sorted) (sym since) (All-permutation (HasPass relates taken) all sorted moved (all_have relates (λ p. p.pass.1) (λ p. p.sessions.items) n qs serves));
            silent = subst (OthersAreSilent sorted) (sym since) (silent_sorted all sorted taken moved (all_silent relates (λ p. p.pass.1) (λ p. p.sessions.items) n qs serves));
            few_missing = λ few. let a = few_missing (λ (p : Place O A C E M R). p.drawer.1) (λ p. p.sessions.items) (λ p. p.stop) n qs drawn have_drawn numbers whole (let x = ap length faults in omega arith) in let x = ap length faults in omega arith;
            fault_order = subst (λ z. IsStrictlyIncreasing (fault_workers z)) (sym faults) (faults_ascend (map (λ p. p.stop) qs));
            fault_workers_are = subst (All (λ f. worker_of f < length workers)) (sym faults) (workers_few (λ (p : Place O A C E M R). p.stop) (length workers) qs (len ∙ workers_len));
            causes = subst (λ (z : List (Worker A C) × List (Worker A C) × List WorkFault). All (HasRisenCount count z.0 z.1) z.2) (λ i. (before i, sym after i, sym faults i)) (causes_of (λ (p : Place O A C E M R). p.worker) (λ p. p.stop) count ps qs len (λ i d lt e. (each i d lt).cause e));
            count = ap length after ∙ (length-map qs (λ (p : Place O A C E M R). p.worker) ∙ (len ∙ workers_len));
            none_fell = subst (λ (z : List (Worker A C) × List (Worker A C)). NoneFell count z.0 z.1) (λ i. (before i, sym after i)) none_fell;
            accepted = subst (λ (z : List (Worker A C) × List (Worker A C)). HasAccepted given z.0 z.1 (length sorted)) (λ i. (before i, sym after i)) (subst (HasAccepted given (map (λ p. p.worker) ps) (map (λ p. p.worker) qs)) (sym count_is) accepted);
          }

-- places at which no worker has run
module _ {O A C E M R : Type 0} where
  pub ready_serves : (n : ℕ) (ps : List (Place O A C E M R)) → All (λ p. IsReady n p.sessions.items p.drawer.1 p.pass.1 p.stop) ps → All (λ p. Serves (λ _ _ _ _. Unit {0}) n p.sessions.items p.pass.1) ps
  ready_serves n ps h = λ k d lt. (ready_going (λ _ _ _ _. Unit {0}) n _ _ _ _ (h k d lt)).serves

  pub unworked : (n : ℕ) (ps : List (Place O A C E M R)) → All (λ p. IsReady n p.sessions.items p.drawer.1 p.pass.1 p.stop) ps → (v v1 w : View M) → v1.taken_in ≡ v.taken_in → v1.made_from ≡ v.made_from ++ map (λ p. p.pass.1.number) ps
      → w.taken_in ≡ v1.taken_in ++ flat_map (λ p. kept_by p.pass.1) ps → w.made_from ≡ v1.made_from ++ flat_map (λ p. p.pass.1.made_from) ps → TakesBack v w
  unworked n ps ready v v1 w t1 m1 t m = takes_back v w (flat_map (λ p. kept_by p.pass.1) ps) (map (λ p. p.pass.1.number) ps) (flat_map (λ p. p.pass.1.made_from) ps)
      (t ∙ ap (λ z. z ++ flat_map (λ p. kept_by p.pass.1) ps) t1) (m ∙ ap (λ z. z ++ flat_map (λ p. p.pass.1.made_from) ps) m1)
      (λ k. made_taken (λ _ _ _ _. Unit {0}) (λ p. p.pass.1) (λ p. p.sessions.items) n ps (ready_serves n ps ready) k)

  silent_places : (n : ℕ) (ps : List (Place O A C E M R)) → All (λ p. IsReady n p.sessions.items p.drawer.1 p.pass.1 p.stop) ps → All (λ kept. kept.calls ≡ []) (flat_map (λ p. kept_by p.pass.1) ps)
  silent_places n [] h = All-nil (λ (kept : Kept M). kept.calls ≡ [])
  silent_places n (p ∷ ps) h = let r = h 0 p (omega arith) in let rest = flat_map (λ p. kept_by p.pass.1) ps in
      subst (λ z. All (λ (kept : Kept M). kept.calls ≡ []) (kept_of p z ++ rest)) (sym r.taken_in)
      (All-cons (λ (kept : Kept M). kept.calls ≡ []) _ rest r.calls (silent_places n ps (λ j d lt. h (suc j) d (omega arith))))
    where
      kept_of : Place O A C E M R → List (Kept M) → List (Kept M)
      kept_of p z = own_of p.pass.1 ∷ z

  pub unworked_silent : (n : ℕ) (ps : List (Place O A C E M R)) → All (λ p. IsReady n p.sessions.items p.drawer.1 p.pass.1 p.stop) ps → (v v1 w : View M) → v1.taken_in ≡ v.taken_in → w.taken_in ≡ v1.taken_in ++ flat_map (λ p. kept_by p.pass.1) ps
      → All (λ kept. kept.calls ≡ []) (taken_since v w)
  unworked_silent n ps ready v v1 w t1 t = subst (All (λ (kept : Kept M). kept.calls ≡ [])) (sym (since_is v.taken_in w.taken_in _ (t ∙ ap (λ z. z ++ flat_map (λ p. kept_by p.pass.1) ps) t1))) (silent_places n ps ready)

-- the places were prepared
pub prepared : {O A C E M R : Type 0} (workers : List (Worker A C)) (v w : View M) (places : List (Place O A C E M R)) → 0 < length workers → map (λ p. p.worker) places ≡ workers → Follows v w → w.draws ≤ v.draws + length workers → w.taken_in ≡ v.taken_in
    → w.made_from ≡ v.made_from ++ map (λ p. p.pass.1.number) places → IsPreparedFrom workers v w places
prepared workers v w places some is follows draws taken_in made_from = record { workers_are = is; some_worker = some; follows = follows; draws = draws; taken_in = taken_in; made_from = made_from }
