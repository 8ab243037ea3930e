-- What the check of a flow finds is its verdict, and the verdict is true.
use Rattle.std.proofs.Common.{ℕ, ◌+◌, ◌<◌, ◌≤◌, ◌≡◌, Bool, true, false, cond, List, length, Option, Some, None, refl, sym, ap, ◌∙◌, subst, arith}
use Rattle.std.specs.Prelude.{zip, sum_by, position, ℤ, pos, ◌-ℤ◌, ◌≤ℤ◌, slice_index_or, not, ◌&&◌, ◌||◌, ◌==◌, nat_le, int_lt, T}
use Rattle.std.specs.Ordering.{int_eq}
use Rattle.std.proofs.lemmas.Bool.{false≢true, eq-eqb, ne_eqb, ltb-false, lt-ltb, leb-false}
use Rattle.std.specs.Int.Signed.{lt_z_no}
use Rattle.std.proofs.lemmas.Bool.Decides.{Decides-int_eq}
use Rattle.std.proofs.lemmas.Int.{ints}
use Rattle.std.proofs.lemmas.List.{length-map}
use Rattle.std.proofs.lemmas.List.Elements.{All-weaker}
use Rattle.flow_model.specs.declared.instance.Arc.{Arc}
use Rattle.flow_model.specs.declared.solve.Solved.{Solved}
use Rattle.flow_model.specs.declared.solve.Solved.TheVariants.{Flow, Cut}
use Rattle.flow_model.specs.Instance.{Net}
use Rattle.flow_model.specs.Flow.{loads, leaving, entering, IsFeasible}
use Rattle.flow_model.specs.Potentials.{reduced_cost, IsShown, ShowsCheapest}
use Rattle.flow_model.specs.Side.{Cuts, on_side, crossing}
use Rattle.flow_model.proofs.Duality.{shown_is_cheapest, cut_has_no_flow}
use Rattle.certificate.specs.declared.problem.Problem.{Problem}
use Rattle.certificate.specs.declared.version.Version.{Version}
use Rattle.certificate.specs.declared.verdict.Verdict.{Verdict}
use Rattle.certificate.specs.declared.verdict.Verdict.TheVariants.{Cheapest, NoFlow, No}
use Rattle.certificate.specs.Certificate.{Certificate, IsCertificate}
use Rattle.certificate.specs.declared.cert.Evidence.{Evidence}
use Rattle.certificate.specs.Cert.{arcs_in, units_in, net_of, answer_of, certificate_of, FitsLoads, Tallies}
use Rattle.certificate.specs.Check.{carried, neighbours, are_disordered, due, is_over, is_uneven, is_uneven_at, is_missed, gains, loses, first_below, no_at, flow_verdict, verdict_for, verdict_of, IsTrueOf}
use Rattle.certificate.proofs.Found.{below_same, below_None, position_None}
use Rattle.certificate.proofs.Loads.{loads_are, carried_are}

-- what the check of a flow finds, up to the first failure, is its verdict
module _ (p : Problem) (ls : List (Arc × ℕ)) (balances potentials : List ℤ) (tallied : Tallies p.nodes balances ls) (long : length ls ≡ p.arcs) where
  uneven : first_below (is_uneven (net_of p ls) (units_in ls)) p.nodes ≡ first_below (is_uneven_at p.source p.destination p.demand balances) (length balances)
  uneven = below_same (is_uneven (net_of p ls) (units_in ls)) (is_uneven_at p.source p.destination p.demand balances) p.nodes (λ v l. ap (λ z. not (int_eq z (due p.source p.destination p.demand v))) (at v l)) ∙ ap (first_below (is_uneven_at p.source p.destination p.demand balances)) (sym tallied.long)
    where
      at : (v : ℕ) → v < p.nodes → pos (leaving v (zip (arcs_in ls) (units_in ls))) -ℤ pos (entering v (zip (arcs_in ls) (units_in ls))) ≡ slice_index_or balances v (pos 0)
      at v l = ap (λ ks. pos (leaving v ks) -ℤ pos (entering v ks)) (loads_are ls) ∙ sym (tallied.each v l)

  pub verdict_is : (over even missed : Option ℕ) → over ≡ position is_over ls → even ≡ first_below (is_uneven_at p.source p.destination p.demand balances) (length balances) → missed ≡ position (is_missed potentials) ls → no_at 3 over (no_at (3 + p.arcs) even (no_at 3 missed Cheapest)) ≡ flow_verdict (net_of p ls) (units_in ls) potentials
  verdict_is over even missed e f g =
      let overs = ap (position is_over) (loads_are ls) ∙ sym e in
      let misses = ap (position (is_missed potentials)) (loads_are ls) ∙ sym g in
      let count = length-map ls (λ (l : Arc × ℕ). l.0) ∙ long in
      sym (λ i. no_at 3 (overs i) (no_at (3 + count i) ((uneven ∙ sym f) i) (no_at 3 (misses i) Cheapest)))

-- the order of the arcs comes before the rest
pub order_first : (c : Certificate) (p : Problem) (ls : List (Arc × ℕ)) (evidence : Evidence) (disorder : Option ℕ) → certificate_of p ls (answer_of ls evidence) ≡ c → FitsLoads p.nodes ls evidence → disorder ≡ position are_disordered (neighbours ls) → no_at 4 disorder (verdict_for c.net c.answer) ≡ verdict_of c
order_first c p ls evidence disorder same fits found =
    let here = found ∙ sym (ap (λ ks. position are_disordered (neighbours ks)) (carried_are p ls evidence fits)) in
    subst (λ d. no_at 4 disorder (verdict_for d.net d.answer) ≡ verdict_of d) same (ap (λ o. no_at 4 o (verdict_for (net_of p ls) (answer_of ls evidence))) here)

-- the verdict is true

or_false : (a b : Bool) → (a || b) ≡ false → (a ≡ false) × (b ≡ false)
or_false true b e = absurd (false≢true (sym e))
or_false false b e = (refl, e)

not_false : (b : Bool) → not b ≡ false → b ≡ true
not_false true e = refl
not_false false e = absurd (false≢true (sym e))

int_lt_false : (x y : ℤ) → int_lt x y ≡ false → y ≤ℤ x
int_lt_false x y e = lt_z_no (subst (λ b. T (not b)) (sym e) tt)

shown : (p : List ℤ) (l : Arc × ℕ) → is_missed p l ≡ false → IsShown p l
shown p l e =
    let h = or_false (gains l.1 l.0.room (reduced_cost p l.0)) (loses l.1 (reduced_cost p l.0)) e in (
      (λ less. int_lt_false (reduced_cost p l.0) (pos 0) (sym (ap (λ b. b && int_lt (reduced_cost p l.0) (pos 0)) (lt-ltb l.1 l.0.room less)) ∙ h.0)),
      (λ some. int_lt_false (pos 0) (reduced_cost p l.0) (sym (ap (λ b. b && int_lt (pos 0) (reduced_cost p l.0)) (lt-ltb 0 l.1 some)) ∙ h.1)),
    )

module _ (version : Version) (net : Net) (flow : List ℕ) (p : List ℤ) (good : IsCertificate (record { version = version; net = net; answer = Flow flow p })) (fit : position is_over (loads net flow) ≡ None) (even : first_below (is_uneven net flow) net.nodes ≡ None) (seen : position (is_missed p) (loads net flow) ≡ None) where
  balance : (v : ℕ) → v < net.nodes → pos (leaving v (loads net flow)) -ℤ pos (entering v (loads net flow)) ≡ due net.source net.destination net.demand v
  balance v l = (Decides-int_eq _ _).0 (not_false _ (below_None (is_uneven net flow) net.nodes even v l))

  feasible : IsFeasible net flow
  feasible = record {
    long = good.answer.0;
    fits = All-weaker (λ l. is_over l ≡ false) (λ (l : Arc × ℕ). l.1 ≤ l.0.room) (λ l e. ltb-false l.0.room l.1 e) (loads net flow) (position_None is_over (loads net flow) fit);
    kept = λ v l not_s not_t. let e = balance v l ∙ ap (λ b. cond b (pos net.demand) (cond (v == net.destination) (pos 0 -ℤ pos net.demand) (pos 0))) (ne_eqb v net.source not_s) ∙ ap (λ b. cond b (pos 0 -ℤ pos net.demand) (pos 0)) (ne_eqb v net.destination not_t) in omega (arith, ints, e);
    sent = let e = balance net.source good.ranges.ends.source_in ∙ ap (λ b. cond b (pos net.demand) (cond (net.source == net.destination) (pos 0 -ℤ pos net.demand) (pos 0))) (eq-eqb net.source net.source refl) in omega (arith, ints, e);
  }

  shows : ShowsCheapest net flow p
  shows = record {
    long = good.answer.2;
    feasible = feasible;
    shown = All-weaker (λ l. is_missed p l ≡ false) (IsShown p) (shown p) (loads net flow) (position_None (is_missed p) (loads net flow) seen);
  }

verdict_is_true : (net : Net) (answer : Solved) (version : Version) → IsCertificate (record { version = version; net = net; answer = answer }) → IsTrueOf (record { version = version; net = net; answer = answer }) (verdict_for net answer)
verdict_is_true net (Flow flow p) version good = by (position is_over (loads net flow)) (first_below (is_uneven net flow) net.nodes) (position (is_missed p) (loads net flow)) refl refl refl
  where
    by : (a b c : Option ℕ) → position is_over (loads net flow) ≡ a → first_below (is_uneven net flow) net.nodes ≡ b → position (is_missed p) (loads net flow) ≡ c → IsTrueOf (record { version = version; net = net; answer = Flow flow p }) (no_at 3 a (no_at (3 + length net.arcs) b (no_at 3 c Cheapest)))
    by (Some i) b c e f g = tt
    by None (Some v) c e f g = tt
    by None None (Some i) e f g = tt
    by None None None e f g = let h = shows version net flow p good e f g in (h, shown_is_cheapest net flow p good.ranges.ends h)
verdict_is_true net (Cut side) version good = by (on_side side net.source) (on_side side net.destination) (nat_le net.demand (sum_by (crossing side) net.arcs)) refl refl refl
  where
    by : (a b c : Bool) → on_side side net.source ≡ a → on_side side net.destination ≡ b → nat_le net.demand (sum_by (crossing side) net.arcs) ≡ c → IsTrueOf (record { version = version; net = net; answer = Cut side }) (cond (not a) (No (3 + length net.arcs + net.source)) (cond b (No (3 + length net.arcs + net.destination)) (cond c (No 2) NoFlow)))
    by false b c e f g = tt
    by true true c e f g = tt
    by true false true e f g = tt
    by true false false e f g =
        let cuts : Cuts net side = record { long = good.answer; source_on = e; destination_off = f; small = leb-false net.demand (sum_by (crossing side) net.arcs) g } in
        (cuts, λ flow ok. cut_has_no_flow net side flow good.ranges.ends cuts ok)

pub true_verdict : (c : Certificate) (v : Verdict) → IsCertificate c → v ≡ verdict_of c → IsTrueOf c v
true_verdict c v good e = subst (IsTrueOf c) (sym e) (by (position are_disordered (neighbours (carried c.net c.answer))))
  where
    by : (o : Option ℕ) → IsTrueOf c (no_at 4 o (verdict_for c.net c.answer))
    by (Some i) = tt
    by None = verdict_is_true c.net c.answer c.version good
