-- A session whose input can be served whole ends with its input, out of memory, or with a fault.
use Rattle.std.proofs.Common.{◌≡◌, ◌<◌, ◌≤◌, ◌+◌, ◌∙◌, ℕ, List, ◌∷◌, ◌++◌, length, Bool, true, false, ◌||◌, nat_lt, Some, None, Option, refl, sym, length-append, arith}
use Rattle.std.specs.Prelude.{IfSome}
use Rattle.std.proofs.lemmas.List.Folds.{list_any-append}
use Rattle.std.proofs.lemmas.Bool.{lt-ltb}
use Rattle.one_history.specs.declared.entry.Entry.{Entry}
use Rattle.line_cut.specs.Lines.{lines_of}
use Rattle.line_cut.specs.declared.limits.TheConstants.{LINE_MAX}
use Rattle.port_io.specs.declared.session_end.SessionEnd.{SessionEnd}
use Rattle.port_io.specs.declared.session_end.SessionEnd.TheVariants.{Done, ReadFault, WriteFault, NoMemory, Full, Long}
use Rattle.rpc_lines.specs.Reply.{Content}
use Rattle.askrene_command.specs.declared.command.Command.{Command}
use Rattle.session.specs.declared.limits.TheConstants.{LINES_MAX}
use Rattle.session.specs.Caller.{CallerIdentity}
use Rattle.session.specs.Session.{SessionSpan, IsSession, IsToldSession, IsServable, EndsWell, any_is_long}

-- a line that is too long is one of the lines
long_is_found : (lines served left : List (List ℕ)) (line : List ℕ) → lines ≡ served ++ line ∷ left → LINE_MAX < length line → any_is_long lines ≡ false → ⊥
long_is_found lines served left line is long none =
    let long_line : nat_lt LINE_MAX (length line) ≡ true = lt-ltb _ _ long in
    let found : any_is_long (served ++ line ∷ left) ≡ (any_is_long served || any_is_long (line ∷ left)) = list_any-append (λ other. nat_lt LINE_MAX (length other)) served (line ∷ left) in
    let wrong : any_is_long (served ++ line ∷ left) ≡ false = rw is at none in
    last_passes (any_is_long served) (any_is_long (line ∷ left)) (sym found ∙ wrong) (rw long_line refl)
  where
    last_passes : (first rest : Bool) → (first || rest) ≡ false → rest ≡ true → ⊥
    last_passes true rest none is = let wrong : true ≡ false = none in cc
    last_passes false rest none is = let wrong : true ≡ false = sym is ∙ none in cc

too_many : (lines served left : List (List ℕ)) (line : List ℕ) → lines ≡ served ++ line ∷ left → length served ≡ LINES_MAX → length lines ≤ LINES_MAX → ⊥
too_many lines served left line is all few =
    let n : length lines ≡ length served + length (line ∷ left) = rw is (length-append served (line ∷ left)) in
    omega (arith, n, all, few)

pub ends_well : (answers : List (Entry Command) → Entry Command → Content → Type 0) (who : CallerIdentity) (end : SessionEnd) (span : SessionSpan) (Reads Writes : Type 0)
    → IsToldSession answers who end span → (end ≡ ReadFault → Reads) → (end ≡ WriteFault → Writes)
    → IfSome span.input (λ bytes. IsServable bytes → (Reads → ⊥) → (Writes → ⊥) → EndsWell end)
ends_well answers who end span Reads Writes session reads writes = each span.input session
  where
    case : (input : List ℕ) (e : SessionEnd) → e ≡ end → IsSession answers who e input span → IsServable input → (Reads → ⊥) → (Writes → ⊥) → EndsWell e
    case input Done is s servable no_read no_write = tt
    case input NoMemory is s servable no_read no_write = tt
    case input ReadFault is s servable no_read no_write = no_read (reads (sym is))
    case input WriteFault is s servable no_read no_write = no_write (writes (sym is))
    case input Full is s servable no_read no_write =
        too_many (lines_of input) s.served s.which.0.left s.which.0.next s.which.0.lines s.which.1 servable.1
    case input Long is s servable no_read no_write =
        long_is_found (lines_of input) s.served s.which.left s.which.next s.which.lines s.which.long servable.0

    each : (told : Option (List ℕ)) → IfSome told (λ input. IsSession answers who end input span)
        → IfSome told (λ bytes. IsServable bytes → (Reads → ⊥) → (Writes → ⊥) → EndsWell end)
    each None s = tt
    each (Some input) s = λ servable no_read no_write. case input end refl s servable no_read no_write
