-- To believe. The limits of the numbers of a head.
use Rattle.std.specs.Prelude.{ℕ, nat_le, Bool, ◌&&◌}
use Rattle.transcript_text.specs.declared.limits.Limit.{Limit}
use Rattle.transcript_text.specs.declared.text.Head.{Head}

-- neither less nor more
abbrev pub is_in_limit : Limit → ℕ → Bool
is_in_limit limit n = nat_le limit.least n && nat_le n limit.most

-- how many provers play
abbrev pub provers_limit : Limit
provers_limit = record { least = 1; most = 16 }

-- how many steps a run has
abbrev pub bound_limit : Limit
bound_limit = record { least = 1; most = 4294967295 }

-- how many passes a question allows
abbrev pub patience_limit : Limit
patience_limit = record { least = 0; most = 100 }

-- which versions of the commitments there are
abbrev pub version_limit : Limit
version_limit = record { least = 1; most = 3 }

-- into how many parts a round cuts its interval
abbrev pub fan_limit : Limit
fan_limit = record { least = 2; most = 16 }

-- each number of a head is within its limit
abbrev pub numbers_are_in_limits : Head → Bool
numbers_are_in_limits h =
    is_in_limit provers_limit h.provers && (is_in_limit bound_limit h.bound && (is_in_limit patience_limit h.patience
    && (is_in_limit version_limit h.version && is_in_limit fan_limit h.fan)))
