-- The line that tells the totals of a workload.
use Rattle.std.specs.Prelude.{ℕ, List, [], ◌∷◌, ◌++◌, codes, decimal}
use Rattle.workload.specs.declared.totals.Totals.{Totals}

-- the line, with its LF
unfoldable pub summary_text : ℕ → Totals → List ℕ
summary_text asks totals =
    codes "asks " ++ decimal asks
    ++ codes " routed " ++ decimal totals.routed
    ++ codes " refused " ++ decimal totals.refused
    ++ codes " parts " ++ decimal totals.parts
    ++ codes " amount_msat " ++ decimal totals.amount_msat
    ++ codes " fee_msat " ++ decimal totals.fee_msat
    ++ 10 ∷ []
