-- Serves private clauses only: how the caps after a round are computed, direction by direction.
use Rattle.std.specs.Prelude.{ℕ, ◌+◌, ◌-◌, ◌*◌, ◌/◌, cond, nat_eq, nat_lt, nat_le, ◌&&◌, Bool, List, slice_index_or, Option, None, Some}
use Rattle.std.specs.Option.{option_map_or}
use Rattle.view_build.specs.declared.view.ViewDir.{ViewDir}
use Rattle.round_rules.specs.declared.round.Cap.{Cap}
use Rattle.round_rules.specs.View.{no_dir}
use Rattle.round_rules.specs.Instance.{find_cap}
use Rattle.round_rules.specs.Next.{raised_from}
use Rattle.limit_rounds.specs.Loads.{load_at}
use Rattle.limit_rounds.specs.declared.loads.Load.{Load}
use Rattle.limit_rounds.specs.declared.units.Share.{Share}

-- the entry of a direction after the round: it stays if the direction gets no new cap
abbrev pub next_entry : ℕ → Option ℕ → Option Cap → Option Cap
next_entry dir None found = found
next_entry dir (Some cap) found = Some (raised_from dir cap (option_map_or (λ (c : Cap). c.times) found 0))

abbrev pub entry : List Cap → List (Option ℕ) → ℕ → Option Cap
entry caps wanted dir = next_entry dir (slice_index_or wanted dir None) (find_cap caps dir)

-- the units that would have kept the limit; none if a part carries too little
abbrev pub cap_for_load : ViewDir → Load → ℕ → ℕ → ℕ
cap_for_load dir load units unit = cond (nat_lt load.least dir.htlc_min) 0 ((dir.max + units * unit - load.total) / unit)

abbrev pub no_share : Share
no_share = record { units = 0; part = 0 }

abbrev pub share_at : List Share → ℕ → Share
share_at shares dir = slice_index_or shares dir no_share

abbrev pub cap_at : List ViewDir → List Load → List Share → ℕ → ℕ → ℕ
cap_at dirs loads shares unit dir = cap_for_load (slice_index_or dirs dir no_dir) (load_at loads dir) (share_at shares dir).units unit

-- whether smaller parts can pass the direction
abbrev pub halves_at : List ViewDir → ℕ → ℕ → ℕ → Bool
halves_at dirs size coarse dir = nat_lt 1 size && nat_le coarse (slice_index_or dirs dir no_dir).htlc_max

-- a part counts its units once, however often it passes the direction
abbrev pub counted : Share → ℕ → ℕ → Share
counted share units part = cond (nat_eq share.part part) share (record { units = share.units + units; part = part })
