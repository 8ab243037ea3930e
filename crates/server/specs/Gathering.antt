-- What the places of all workers have together. It serves private clauses only.
use Rattle.std.specs.Prelude.{◌≡◌, ℕ, ◌+◌, ◌<◌, List, [], ◌∷◌, ◌++◌, All, None, Some, Option}
use Rattle.server.specs.declared.counter.Drawn.{Drawn}
use Rattle.server.specs.declared.place.Stop.{Stop}
use Rattle.server.specs.declared.place.Stop.TheVariants.{Accept, NoMemory}
use Rattle.server.specs.declared.worker.Session.{Session}
use Rattle.server.specs.declared.worker.WorkFault.{WorkFault}
use Rattle.server.specs.declared.worker.WorkFault.TheVariants.{Accept as AcceptOf, NoMemory as NoMemoryOf}
use Rattle.server.specs.Work.{session_numbers}

-- a worker drew the numbers of its sessions, which are connections', and one more
pub record Drew {E : Type 0} (connections : ℕ) (drawn : Drawn) (sessions : List (Session E)) : Type 0 where
  pub last : ℕ
  pub numbers : drawn.numbers ≡ session_numbers sessions ++ last ∷ []
  pub below : All (λ s. s.number < connections) sessions

-- the fault of a worker that had to stop
abbrev pub fault_at : ℕ → Stop → WorkFault
fault_at worker Accept = AcceptOf worker
fault_at worker NoMemory = NoMemoryOf worker

abbrev pub fault_of : ℕ → Option Stop → List WorkFault
fault_of worker None = []
fault_of worker (Some stop) = fault_at worker stop ∷ []

-- the faults of workers, the first of which has this number
abbrev pub faults_from : ℕ → List (Option Stop) → List WorkFault
faults_from worker [] = []
faults_from worker (stop ∷ stops) = fault_of worker stop ++ faults_from (worker + 1) stops
