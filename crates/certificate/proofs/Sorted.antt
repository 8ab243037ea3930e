-- Arcs in order by direction are those of an instance.
use Rattle.std.proofs.Common.{ℕ, zero, suc, ◌+◌, ◌<◌, ◌≤◌, ◌≡◌, List, ◌∙◌, subst, arith, length, ◌-◌}
use Rattle.std.specs.Prelude.{slice_index_or}
use Rattle.flow_model.specs.declared.instance.Arc.{Arc}
use Rattle.flow_model.specs.Instance.{IsInstance, StandTogether}
use Rattle.certificate.specs.declared.limits.TheConstants.{CERT_ARCS_MAX}
use Rattle.certificate.specs.declared.version.Version.{Version}
use Rattle.certificate.specs.declared.version.Version.TheVariants.{One, Two}
use Rattle.certificate.specs.Certificate.{Certificate, IsCertificate, most_arcs}
use Rattle.certificate.specs.Order.{Follows, AreSorted}

-- each arc below an index follows the one before it
abbrev pub StepsFollow : List Arc → ℕ → Type 0
StepsFollow arcs n = (k : ℕ) (d : Arc) → k + 1 < n → Follows (slice_index_or arcs k d) (slice_index_or arcs (k + 1) d)

follows_on : (a b c : Arc) → Follows a b → Follows b c → Follows a c
follows_on a b c ab bc =
    let l = ab.0 in
    let m = bc.0 in (
      omega (arith, l, m),
      λ e.
          let x = ab.1 (omega (arith, l, m, e)) in
          let y = bc.1 (omega (arith, l, m, e)) in
          let k = x.2 in
          let n = y.2 in
          (x.0 ∙ y.0, x.1 ∙ y.1, omega (arith, k, n)),
    )

far_follows : (arcs : List Arc) (n i j : ℕ) (d : Arc) → StepsFollow arcs (length arcs) → i + n + 1 ≡ j → j < length arcs → Follows (slice_index_or arcs i d) (slice_index_or arcs j d)
far_follows arcs zero i j d steps e l = subst (λ m. Follows (slice_index_or arcs i d) (slice_index_or arcs m d)) (let h : i + 1 ≡ j = omega (arith, e) in h) (steps i d (omega (arith, e, l)))
far_follows arcs (suc n) i j d steps e l =
    let next = steps i d (omega (arith, e, l)) in
    let rest = far_follows arcs n (i + 1) j d steps (omega (arith, e)) l in
    follows_on (slice_index_or arcs i d) (slice_index_or arcs (i + 1) d) (slice_index_or arcs j d) next rest

pub sorted_from_steps : (arcs : List Arc) (n : ℕ) → length arcs ≤ n → StepsFollow arcs n → AreSorted arcs
sorted_from_steps arcs n long steps i j d less l = far_follows arcs (j - (i + 1)) i j d (λ k c m. steps k c (omega (arith, m, long))) (omega (arith, less)) l

pub sorted_together : (arcs : List Arc) → AreSorted arcs → StandTogether arcs
sorted_together arcs sorted i j k d ij jk l e =
    let a = (sorted i j d ij (omega (arith, jk, l))).0 in
    let b = (sorted j k d jk l).0 in
    omega (arith, a, b, e)

few : (v : Version) (n : ℕ) → n ≤ most_arcs v → n ≤ CERT_ARCS_MAX
few One n le = omega (arith, le)
few Two n le = le

pub sorted_instance : (c : Certificate) → IsCertificate c → AreSorted c.net.arcs → IsInstance c.net
sorted_instance c good sorted =
    let nodes = good.ranges.few_nodes in
    let arcs = few c.version (length c.net.arcs) good.ranges.few_arcs in
    record {
      ranges = record {
        ends = good.ranges.ends;
        few_nodes = omega (arith, nodes);
        few_arcs = omega (arith, arcs);
        some_demand = good.ranges.some_demand;
        most_demand = good.ranges.most_demand;
        good_arcs = good.ranges.good_arcs;
      };
      dearer = λ i j d less l. (sorted i j d less l).1;
      together = sorted_together c.net.arcs sorted;
    }
