-- One worker at its place: before it draws, and at its end. It serves private clauses only.
--
-- A worker draws one number more than it has sessions: the last one is no connection's if and only if it has no fault.
use Rattle.std.specs.Prelude.{◌≡◌, ℕ, ◌+◌, ◌-◌, ◌^◌, ◌<◌, ◌≤◌, min, List, [], ◌∷◌, ◌++◌, length, All, None, Some, Option}
use Rattle.std.specs.List.{AllZip}
use Rattle.atomic_table.specs.Seated.{TableId}
use Rattle.port_io.specs.Faults.{Rose}
use Rattle.one_history.specs.declared.entry.Entry.{Entry}
use Rattle.turn_desk.specs.View.{numbers_in}
use Rattle.turn_desk.specs.declared.view.View.{View}
use Rattle.server.specs.declared.counter.Drawn.{Drawn}
use Rattle.server.specs.declared.place.Place.{Place}
use Rattle.server.specs.declared.place.Stop.{Stop}
use Rattle.server.specs.declared.place.Stop.TheVariants.{Accept}
use Rattle.server.specs.declared.worker.Session.{Session}
use Rattle.server.specs.Work.{Follows, IsSessionOf, session_numbers}

-- from a count that was `start` at least `sessions` connections were accepted, up to the count's last value
abbrev pub AcceptedFrom : ℕ → ℕ → ℕ → Type 0
AcceptedFrom start sessions now = min (start + sessions) (2 ^ 64 - 1) ≤ now

module _ {E M : Type 0} (relates : E → ℕ → ℕ → List (Entry M) → Type 0) where
  -- the pass has taken in the passes of the sessions, in order, and nothing else was made from it
  pub record Serves (connections : ℕ) (sessions : List (Session E)) (pass : View M) : Type 0 where
    pub taken_in : AllZip (IsSessionOf relates) sessions pass.taken_in
    pub below : All (λ s. s.number < connections) sessions
    pub made_from : pass.made_from ≡ numbers_in pass.taken_in
    pub calls : pass.calls ≡ []

  -- before it draws
  pub record Going (connections : ℕ) (sessions : List (Session E)) (drawn : Drawn) (pass : View M) : Type 0 where
    pub connections_are : drawn.connections ≡ connections
    pub parts : drawn.parts ≡ 1
    pub splits : drawn.splits ≡ 0
    pub numbers : drawn.numbers ≡ session_numbers sessions
    pub serves : Serves connections sessions pass

  -- at its end
  pub record Ended (connections : ℕ) (sessions : List (Session E)) (drawn : Drawn) (pass : View M) (stop : Option Stop) : Type 0 where
    pub last : ℕ
    pub connections_are : drawn.connections ≡ connections
    pub parts : drawn.parts ≡ 1
    pub splits : drawn.splits ≡ 0
    pub numbers : drawn.numbers ≡ session_numbers sessions ++ last ∷ []
    pub serves : Serves connections sessions pass
    pub ran_out : stop ≡ None → connections ≤ last
    pub stopped : (x : Stop) → stop ≡ Some x → last < connections

-- a worker's place before it begins
pub record IsReady {E M : Type 0} (connections : ℕ) (sessions : List (Session E)) (drawn : Drawn) (pass : View M) (stop : Option Stop) : Type 0 where
  pub connections_are : drawn.connections ≡ connections
  pub parts : drawn.parts ≡ 1
  pub splits : drawn.splits ≡ 0
  pub numbers : drawn.numbers ≡ []
  pub no_sessions : sessions ≡ []
  pub taken_in : pass.taken_in ≡ []
  pub made_from : pass.made_from ≡ []
  pub calls : pass.calls ≡ []
  pub running : stop ≡ None

module _ {O A C E M R : Type 0} (relates : E → ℕ → ℕ → List (Entry M) → Type 0) where
  -- a place at which a worker may run
  pub record MayRun (connections : ℕ) (desk counter : TableId) (p : Place O A C E M R) : Type 0 where
    pub on_desk : p.pass.0 ≡ desk
    pub on_counter : p.drawer.0 ≡ counter
    pub no_sessions : p.sessions.items ≡ []
    pub going : Going relates connections p.sessions.items p.drawer.1 p.pass.1
    pub running : p.stop ≡ None

  -- what has become of it
  pub record Ran (faults given : A → ℕ) (connections : ℕ) (p q : Place O A C E M R) : Type 0 where
    pub desk : q.pass.0 ≡ p.pass.0
    pub counter : q.drawer.0 ≡ p.drawer.0
    pub ended : Ended relates connections q.sessions.items q.drawer.1 q.pass.1 q.stop
    pub follows : Follows p.pass.1 q.pass.1
    pub never_falls : faults p.worker.acceptor ≤ faults q.worker.acceptor
    pub cause : q.stop ≡ Some Accept → Rose (faults p.worker.acceptor) (faults q.worker.acceptor)
    pub accepted : AcceptedFrom (given p.worker.acceptor) (length q.sessions.items) (given q.worker.acceptor)
