use Rattle.std.specs.Prelude.{ℕ, Some, None}
use Rattle.xf_span.specs.declared.code.Code.{Code}
use Rattle.xf_span.specs.declared.fault.Fault.{Fault}
use Rattle.xf_span.specs.declared.place.Place.{Place}

-- a fault without a place
abbrev pub plain_fault : Code → Fault
plain_fault code = record { code = code; place = None; number = 0; other = None }

-- a fault at a place
abbrev pub fault_at : Code → Place → Fault
fault_at code place = record { code = code; place = Some place; number = 0; other = None }

-- a fault at a place, with a number
abbrev pub numbered_fault : Code → Place → ℕ → Fault
numbered_fault code place number = record { code = code; place = Some place; number = number; other = None }

-- a fault at a place, with another code and place that its line tells of
abbrev pub related_fault : Code → Place → Code → Place → Fault
related_fault code place other other_place =
    record { code = code; place = Some place; number = 0; other = Some (other, other_place) }
