use Rattle.std.specs.Prelude.{ℕ, List, [], ◌++◌, ◌≢◌, Option, Some, None, IsSome, IsSomeAnd, ⊤, codes, decimal}
use Rattle.xf_span.specs.Code.{code_text, name_text, form_of}
use Rattle.xf_span.specs.declared.code.Code.{Code}
use Rattle.xf_span.specs.declared.fault.Fault.{Fault}
use Rattle.xf_span.specs.declared.place.Place.{Place}
use Rattle.xf_span.specs.declared.table.LineForm.{LineForm}
use Rattle.xf_span.specs.declared.table.LineForm.TheVariants.{Usage, Read, Write, Memory, Unplaced, Placed}
use Rattle.xf_span.specs.declared.table.LineForm.TheVariants.{PlacedIfKnown, Unnamed, Numbered, LastFault, Consumed}
use Rattle.xf_span.specs.declared.table.LineForm.TheVariants.{MayBeConsumed}

-- LINE:COL
abbrev pub place_text : Place → List ℕ
place_text p = decimal p.line ++ codes ":" ++ decimal p.col

-- PATH:LINE:COL: , or without a place PATH:
abbrev pub head_text : List ℕ → Option Place → List ℕ
head_text path (Some p) = path ++ codes ":" ++ place_text p ++ codes ": "
head_text path None = path ++ codes ": "

-- CODE NAME
abbrev pub named_text : Code → List ℕ
named_text code = code_text code ++ codes " " ++ name_text code

-- , last CODE at LINE:COL
abbrev pub last_text : Option (Code × Place) → List ℕ
last_text (Some (code, p)) = codes ", last " ++ code_text code ++ codes " at " ++ place_text p
last_text None = []

-- these words, and then LINE:COL
abbrev pub with_place : List ℕ → Option (Code × Place) → List ℕ
with_place words (Some (code, p)) = words ++ place_text p
with_place words None = []

-- the line of each form, without its line feed
abbrev pub line_in : LineForm → List ℕ → Fault → List ℕ
line_in Usage path f = codes "transform_opt: words not understood"
line_in Read path f = path ++ codes ": read failed"
line_in Write path f = codes "out: write failed"
line_in Memory path f = codes "out of memory"
line_in Unplaced path f = head_text path None ++ named_text f.code
line_in Placed path f = head_text path f.place ++ named_text f.code
line_in PlacedIfKnown path f = head_text path f.place ++ named_text f.code
line_in Unnamed path f = head_text path f.place ++ code_text f.code
line_in Numbered path f = head_text path f.place ++ named_text f.code ++ codes " " ++ decimal f.number
line_in LastFault path f = head_text path f.place ++ named_text f.code ++ last_text f.other
line_in Consumed path f = head_text path f.place ++ named_text f.code ++ with_place (codes ", consumed at ") f.other
line_in MayBeConsumed path f =
    head_text path f.place ++ named_text f.code ++ with_place (codes ", may be consumed at ") f.other

-- the line of a fault
abbrev pub line_of : List ℕ → Fault → List ℕ
line_of path f = line_in (form_of f.code) path f ++ codes "\n"

-- a fault has what the line of its form tells
abbrev pub HasLineIn : LineForm → Fault → Type 0
HasLineIn Placed f = IsSome f.place
HasLineIn Unnamed f = IsSome f.place
HasLineIn Numbered f = IsSome f.place
HasLineIn LastFault f = IsSome f.place × IsSomeAnd f.other (λ other. code_text other.0 ≢ [])
HasLineIn Consumed f = IsSome f.place × IsSome f.other
HasLineIn MayBeConsumed f = IsSome f.place × IsSome f.other
HasLineIn _ f = ⊤

-- a fault has what its line tells
abbrev pub HasLine : Fault → Type 0
HasLine f = HasLineIn (form_of f.code) f
