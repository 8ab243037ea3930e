-- An arc of a network and its units, by number.
use Rattle.std.proofs.Common.{ℕ, zero, suc, ◌<◌, ◌≤◌, ◌≡◌, List, [], ◌∷◌, sym, refl, ap, ◌∙◌, subst, arith, length}
use Rattle.std.specs.Prelude.{All, zip, slice_index, slice_index_or, replicate}
use Rattle.std.proofs.lemmas.List.{get_or-replicate, length-replicate}
use Rattle.std.proofs.lemmas.Slice.Zip.{get_or-zip, length-zip}
use Rattle.flow_model.specs.declared.instance.Arc.{Arc}
use Rattle.flow_model.specs.Instance.{Net, IsInstance, no_arc, arc_at}
use Rattle.residual_net.specs.Residual.{ResidualNet, IsResidualNet}

-- a property of each arc and its units, at an index
pub at_from_zip : (P : Arc × ℕ → Type 0) (arcs : List Arc) (flow : List ℕ) (i : ℕ) → length flow ≡ length arcs → i < length arcs → All P (zip arcs flow) → P (arc_at arcs i, slice_index flow i)
at_from_zip P arcs flow i long l all = subst P (get_or-zip arcs flow i (no_arc, 0) l (omega arith)) (all i (no_arc, 0) (omega (arith, length-zip arcs flow)))

-- in range, the default of a look-up does not matter
pub get_or-any : {X : Type 0} (xs : List X) (k : ℕ) (d e : X) → k < length xs → slice_index_or xs k d ≡ slice_index_or xs k e
get_or-any [] k d e l = absurd (omega arith)
get_or-any (x ∷ xs) zero d e l = refl
get_or-any (x ∷ xs) (suc k) d e l = get_or-any xs k d e (omega arith)

pub zip_from_at : (P : Arc × ℕ → Type 0) (arcs : List Arc) (flow : List ℕ) → length flow ≡ length arcs → ((i : ℕ) → i < length arcs → P (arc_at arcs i, slice_index flow i)) → All P (zip arcs flow)
zip_from_at P arcs flow long each k d l =
    let in' : k < length arcs = omega (arith, length-zip arcs flow) in
    subst P (sym (get_or-zip arcs flow k (no_arc, 0) in' (omega arith)) ∙ get_or-any (zip arcs flow) k (no_arc, 0) d l) (each k in')

pub opened : (net : Net) (flow : List ℕ) → IsInstance net → flow ≡ replicate (length net.arcs) 0 → IsResidualNet (record { net = net; flow = flow })
opened net flow good e =
    let long : length (replicate (length net.arcs) 0) ≡ length net.arcs = length-replicate (length net.arcs) 0 in
    record {
      good = good;
      long = ap length e ∙ long;
      fits = subst (λ f. All (λ (l : Arc × ℕ). l.1 ≤ l.0.room) (zip net.arcs f)) (sym e) (zip_from_at (λ l. l.1 ≤ l.0.room) net.arcs (replicate (length net.arcs) 0) long (λ i l. omega (arith, get_or-replicate {A = ℕ} (length net.arcs) i 0 0 l)));
    }

pub fits_at : (residual : ResidualNet) (i : ℕ) → IsResidualNet residual → i < length residual.net.arcs → slice_index residual.flow i ≤ (arc_at residual.net.arcs i).room
fits_at residual i ok l = at_from_zip (λ l. l.1 ≤ l.0.room) residual.net.arcs residual.flow i ok.long l ok.fits
