use Rattle.std.specs.Prelude.{ℕ, List, [], codes}
use Rattle.xf_span.specs.declared.code.Code.{Code}
use Rattle.xf_span.specs.declared.code.Code.TheVariants.{Words, ReadFailed, WriteFailed, OutOfMemory, L1, L2, L3, L4}
use Rattle.xf_span.specs.declared.code.Code.TheVariants.{A1, A2, A3, A4, A5, A6, A7, A8, V1, V2, V3, V4, V5, V6, V7, V8}
use Rattle.xf_span.specs.declared.code.Code.TheVariants.{V9, V10, V11, V12, V13, V14, V15, V16, B1, B2, B3, B4, B5, B6}
use Rattle.xf_span.specs.declared.code.Code.TheVariants.{B7, B8, B9, B10, B11, B12, S1, S2, S3, S4, S5, S6, S7, S8, S9}
use Rattle.xf_span.specs.declared.code.Code.TheVariants.{S10, S11, S12, S13, S14, S15, S16, S17, S18, S19, S20, S21}
use Rattle.xf_span.specs.declared.code.Code.TheVariants.{S22, S23, F1, F2, F3, F4, F5, F6, F7, X1, X2, X3, X4, X5, U1}
use Rattle.xf_span.specs.declared.code.Code.TheVariants.{N1}
use Rattle.xf_span.specs.declared.table.LineForm.{LineForm}
use Rattle.xf_span.specs.declared.table.LineForm.TheVariants as form

-- the letter and number of a code
abbrev pub code_text : Code → List ℕ
code_text L1 = codes "L1"
code_text L2 = codes "L2"
code_text L3 = codes "L3"
code_text L4 = codes "L4"
code_text A1 = codes "A1"
code_text A2 = codes "A2"
code_text A3 = codes "A3"
code_text A4 = codes "A4"
code_text A5 = codes "A5"
code_text A6 = codes "A6"
code_text A7 = codes "A7"
code_text A8 = codes "A8"
code_text V1 = codes "V1"
code_text V2 = codes "V2"
code_text V3 = codes "V3"
code_text V4 = codes "V4"
code_text V5 = codes "V5"
code_text V6 = codes "V6"
code_text V7 = codes "V7"
code_text V8 = codes "V8"
code_text V9 = codes "V9"
code_text V10 = codes "V10"
code_text V11 = codes "V11"
code_text V12 = codes "V12"
code_text V13 = codes "V13"
code_text V14 = codes "V14"
code_text V15 = codes "V15"
code_text V16 = codes "V16"
code_text B1 = codes "B1"
code_text B2 = codes "B2"
code_text B3 = codes "B3"
code_text B4 = codes "B4"
code_text B5 = codes "B5"
code_text B6 = codes "B6"
code_text B7 = codes "B7"
code_text B8 = codes "B8"
code_text B9 = codes "B9"
code_text B10 = codes "B10"
code_text B11 = codes "B11"
code_text B12 = codes "B12"
code_text S1 = codes "S1"
code_text S2 = codes "S2"
code_text S3 = codes "S3"
code_text S4 = codes "S4"
code_text S5 = codes "S5"
code_text S6 = codes "S6"
code_text S7 = codes "S7"
code_text S8 = codes "S8"
code_text S9 = codes "S9"
code_text S10 = codes "S10"
code_text S11 = codes "S11"
code_text S12 = codes "S12"
code_text S13 = codes "S13"
code_text S14 = codes "S14"
code_text S15 = codes "S15"
code_text S16 = codes "S16"
code_text S17 = codes "S17"
code_text S18 = codes "S18"
code_text S19 = codes "S19"
code_text S20 = codes "S20"
code_text S21 = codes "S21"
code_text S22 = codes "S22"
code_text S23 = codes "S23"
code_text F1 = codes "F1"
code_text F2 = codes "F2"
code_text F3 = codes "F3"
code_text F4 = codes "F4"
code_text F5 = codes "F5"
code_text F6 = codes "F6"
code_text F7 = codes "F7"
code_text X1 = codes "X1"
code_text X2 = codes "X2"
code_text X3 = codes "X3"
code_text X4 = codes "X4"
code_text X5 = codes "X5"
code_text U1 = codes "U1"
code_text N1 = codes "N1"
code_text _ = []

-- the name of a code: a rule of a valid module has none
abbrev pub name_text : Code → List ℕ
name_text L1 = codes "BadByte"
name_text L2 = codes "OpenString"
name_text L3 = codes "NumberTooWide"
name_text L4 = codes "BadUtf8"
name_text A1 = codes "SyntaxAt"
name_text A2 = codes "NameUndefined"
name_text A3 = codes "NameTwice"
name_text A4 = codes "TypeMismatch"
name_text A5 = codes "NestLimit"
name_text A6 = codes "OutOfProfile"
name_text A7 = codes "TooManyOps"
name_text A8 = codes "TooLong"
name_text B1 = codes "Syntax"
name_text B2 = codes "Unknown"
name_text B3 = codes "Operands"
name_text B4 = codes "ResultType"
name_text B5 = codes "Undefined"
name_text B6 = codes "Annotation"
name_text B7 = codes "RecursiveInclude"
name_text B8 = codes "NoMain"
name_text B9 = codes "UnknownExtension"
name_text B10 = codes "NestLimit"
name_text B11 = codes "NameTwice"
name_text B12 = codes "TooLong"
name_text S1 = codes "NotLinalg"
name_text S2 = codes "TooManySizes"
name_text S3 = codes "SizeNegative"
name_text S4 = codes "ParamCount"
name_text S5 = codes "NotLoop"
name_text S6 = codes "BoundsUnknown"
name_text S7 = codes "UnrollRange"
name_text S8 = codes "SplitCount"
name_text S9 = codes "CastKind"
name_text S10 = codes "NoParent"
name_text S11 = codes "NumberTooLarge"
name_text S12 = codes "NoDefiningOp"
name_text S13 = codes "NoSliceUse"
name_text S14 = codes "NotOneOp"
name_text S15 = codes "NotBefore"
name_text S16 = codes "BadPermutation"
name_text S17 = codes "NoMatch"
name_text S18 = codes "AllAlternatives"
name_text S19 = codes "Declined"
name_text S20 = codes "ExtFailed"
name_text S21 = codes "ExtRetired"
name_text S22 = codes "NoPosition"
name_text S23 = codes "NotReplaceable"
name_text F1 = codes "RepeatedConsumption"
name_text F2 = codes "NestedTargets"
name_text F3 = codes "InvalidHandle"
name_text F4 = codes "OpLimit"
name_text F5 = codes "StepLimit"
name_text F6 = codes "DepthLimit"
name_text F7 = codes "ListLimit"
name_text X1 = codes "Undefined"
name_text X2 = codes "EvalBudget"
name_text X3 = codes "NoFunction"
name_text X4 = codes "BadArguments"
name_text X5 = codes "NoNumber"
name_text U1 = codes "MayUse"
name_text N1 = codes "NotBuilt"
name_text _ = []

-- how the line of a code is made
abbrev pub form_of : Code → LineForm
form_of Words = form.Usage
form_of ReadFailed = form.Read
form_of WriteFailed = form.Write
form_of OutOfMemory = form.Memory
form_of X2 = form.Unplaced
form_of X3 = form.Unplaced
form_of X4 = form.Unplaced
form_of X5 = form.Unplaced
form_of N1 = form.PlacedIfKnown
form_of V1 = form.Unnamed
form_of V2 = form.Unnamed
form_of V3 = form.Unnamed
form_of V4 = form.Unnamed
form_of V5 = form.Unnamed
form_of V6 = form.Unnamed
form_of V7 = form.Unnamed
form_of V8 = form.Unnamed
form_of V9 = form.Unnamed
form_of V10 = form.Unnamed
form_of V11 = form.Unnamed
form_of V12 = form.Unnamed
form_of V13 = form.Unnamed
form_of V14 = form.Unnamed
form_of V15 = form.Unnamed
form_of V16 = form.Unnamed
form_of A6 = form.Numbered
form_of S18 = form.LastFault
form_of F3 = form.Consumed
form_of U1 = form.MayBeConsumed
form_of _ = form.Placed
