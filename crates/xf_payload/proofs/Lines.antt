-- The fault of a file that holds no payload has what its line tells.
use Rattle.std.proofs.Common.{◌≡◌, ℕ, suc, List, [], ◌∷◌, take, drop, Option, Some, None, Bool, true, false, ◌==◌, ◌&&◌}
use Rattle.std.proofs.Common.{if◌then◌else◌, inl, inr, refl, sym, subst}
use Rattle.xf_span.specs.declared.place.Place.{Place}
use Rattle.xf_span.specs.declared.code.Code.{Code}
use Rattle.xf_span.specs.declared.code.Code.TheVariants.{L1, L2, L3, A2, A3, A4}
use Rattle.xf_span.specs.declared.fault.Fault.{Fault}
use Rattle.xf_span.specs.declared.fault.TextFault.{TextFault}
use Rattle.xf_span.specs.declared.fault.TextFault.TheVariants as text_fault
use Rattle.xf_span.specs.Fault.{fault_at}
use Rattle.xf_span.specs.Line.{HasLine}
use Rattle.xf_lex.specs.declared.token.Token.{Token}
use Rattle.xf_lex.specs.declared.token.TokenKind.{TokenKind}
use Rattle.xf_lex.specs.declared.token.TokenKind.TheVariants as kind
use Rattle.xf_lex.specs.declared.lexeme.Lexeme.{Lexeme}
use Rattle.xf_lex.specs.declared.lexeme.Lexeme.TheVariants as front
use Rattle.xf_type.specs.Bytes.{is_digit, is_letter, is_word_byte}
use Rattle.xf_lex.specs.Bytes.{is_name_start, is_name_byte, is_mark, run, starts}
use Rattle.xf_lex.specs.Lexemes.{quoted_in, string_of, string_at, value_at, named_at, hash_at, shape_at, integer_of}
use Rattle.xf_lex.specs.Lexemes.{sign_at, token_at}
use Rattle.xf_lex.specs.Lexes.{HasFault, text_at}
use Rattle.xf_read_base.specs.declared.verdict.Verdict.{Verdict}
use Rattle.xf_read_base.specs.declared.verdict.Verdict.TheVariants.{Syntax, OutOfProfile, NotBuilt, TooMany, TooDeep}
use Rattle.xf_ir.specs.declared.rule.Rule.{Rule}
use Rattle.xf_ir.specs.declared.rule.Rule.TheVariants as rule
use Rattle.xf_format.specs.declared.expected.Expected.{Expected}
use Rattle.xf_read_base.specs.Stops.{judged, due_fault}
use Rattle.xf_read.specs.Spells.{mismatch_fault, twice_fault_or, undefined_fault_or, Misspells}
use Rattle.xf_read.specs.Meant.{file_faults}
use Rattle.xf_payload.specs.Payload.{rule_code, IsNoPayload, IsRefused, IsTellable}

-- ---- tokens

-- the fault of a front has what its line tells, at any place
record IsPlaced (f : Lexeme) : Type 0 where
  pub line : (code : Code) (inside : ℕ) (p : Place) → f ≡ front.Fault code inside → HasLine (fault_at code p)

token : (k : TokenKind) (count : ℕ) → IsPlaced (front.Token k count)
token k count = record { line = λ code inside p e. absurd (cc) }

end : IsPlaced front.End
end = record { line = λ code inside p e. absurd (cc) }

fault : (c : Code) (n : ℕ) → ((p : Place) → HasLine (fault_at c p)) → IsPlaced (front.Fault c n)
fault c n l =
    record { line = λ code inside p e. let same : c ≡ code = cc in subst (λ d. HasLine (fault_at d p)) same (l p) }

bad_byte : (n : ℕ) → IsPlaced (front.Fault L1 n)
bad_byte n = fault L1 n (λ p. refl)

either : (b : Bool) (x y : Lexeme) → IsPlaced x → IsPlaced y → IsPlaced (if b then x else y)
either true x y p q = p
either false x y p q = q

string_placed : (bytes : List ℕ) (closed : Bool) → IsPlaced (string_of bytes closed)
string_placed bytes closed = either closed _ _ (either _ _ _ (bad_byte _) (token _ _)) (fault L2 0 (λ p. refl))

value_placed : (bs : List ℕ) → IsPlaced (value_at bs)
value_placed [] = bad_byte 0
value_placed (b ∷ bs) =
    either (is_digit b) (front.Token kind.Value (suc (suc (run is_digit bs)))) (if is_name_start b
    then front.Token kind.Value (suc (suc (run is_name_byte bs))) else front.Fault L1 0)
    (token _ _) (either (is_name_start b) (front.Token kind.Value (suc (suc (run is_name_byte bs)))) (front.Fault L1 0)
    (token _ _) (bad_byte 0))

named_placed : (k : TokenKind) (bs : List ℕ) → IsPlaced (named_at k bs)
named_placed k [] = bad_byte 0
named_placed k (b ∷ bs) = either _ _ _ (token _ _) (bad_byte 0)

hash_placed : (bs : List ℕ) → IsPlaced (hash_at bs)
hash_placed [] = bad_byte 0
hash_placed (b ∷ bs) = either _ _ _ (token _ _) (named_placed kind.Hash (b ∷ bs))

shape_placed : (bs : List ℕ) → IsPlaced (shape_at bs)
shape_placed bs = either _ _ _ (token _ _) (bad_byte 0)

integer_placed : (digits : List ℕ) → IsPlaced (integer_of digits)
integer_placed digits = either _ _ _ (token _ _) (fault L3 0 (λ p. refl))

sign_placed : (b : ℕ) (bs : List ℕ) → IsPlaced (sign_at b bs)
sign_placed b bs =
    either _ _ _ (value_placed bs) (either _ _ _ (named_placed kind.Symbol bs)
    (either _ _ _ (named_placed kind.BlockName bs) (either _ _ _ (named_placed kind.DialectType bs)
    (either _ _ _ (hash_placed bs)
    (either ((b == 45) && starts 62 bs) (front.Token kind.Arrow 2) (if is_mark b then front.Token (kind.Mark b) 1
    else front.Fault L1 0) (token _ _)
    (either (is_mark b) (front.Token (kind.Mark b) 1) (front.Fault L1 0) (token _ _) (bad_byte 0)))))))

token_placed : (after_tensor : Bool) (bs : List ℕ) → IsPlaced (token_at after_tensor bs)
token_placed after_tensor [] = end
token_placed after_tensor (b ∷ bs) =
    either (is_letter b) (front.Token kind.Word (suc (run is_word_byte bs)))
    (if is_digit b then integer_of (b ∷ take (run is_digit bs) bs) else if b == 34 then string_at bs
    else if (b == 60) && after_tensor then shape_at bs else sign_at b bs)
    (token _ _)
    (either (is_digit b) (integer_of (b ∷ take (run is_digit bs) bs)) (if b == 34 then string_at bs else if (b == 60)
    && after_tensor then shape_at bs else sign_at b bs) (integer_placed (b ∷ take (run is_digit bs) bs))
    (either (b == 34) (string_at bs) (if (b == 60) && after_tensor then shape_at bs
    else sign_at b bs) (string_placed (take (quoted_in false bs) bs) (starts 34 (drop (quoted_in false bs) bs)))
    (either ((b == 60) && after_tensor) (shape_at bs) (sign_at b bs) (shape_placed bs) (sign_placed b bs))))

lexical_line : (bytes : List ℕ) (f : Fault) → HasFault bytes f → HasLine f
lexical_line bytes f (inl x) = subst HasLine (sym x.fault)
    ((token_placed x.last.after_tensor (text_at x.last.rest)).line x.code x.inside _ x.broken)
lexical_line bytes f (inr x) = subst HasLine (sym x.fault) refl

-- ---- the syntax

judged_line : (v : Verdict) (p : Place) → HasLine (judged v p)
judged_line Syntax p = refl
judged_line (OutOfProfile n) p = refl
judged_line NotBuilt p = tt
judged_line TooMany p = refl
judged_line TooDeep p = refl

syntax_line : (all : List Token) (at : ℕ) (d : Expected) → HasLine (due_fault all at d)
syntax_line all at d = judged_line _ _

-- ---- names and types

some_line : (f g : Fault) → HasLine f → Some f ≡ Some g → HasLine g
some_line f g l e = let same : f ≡ g = cc in subst HasLine same l

mismatch_line : (all : List Token) (m : Option ℕ) (f : Fault) → mismatch_fault all m ≡ Some f → HasLine f
mismatch_line all None f e = absurd (cc)
mismatch_line all (Some i) f e = some_line (fault_at A4 _) f refl e

twice_line : (all : List Token) (t m : Option ℕ) (f : Fault)
    → twice_fault_or all t (mismatch_fault all m) ≡ Some f → HasLine f
twice_line all None m f e = mismatch_line all m f e
twice_line all (Some i) m f e = some_line (fault_at A3 _) f refl e

undefined_line : (all : List Token) (u t m : Option ℕ) (f : Fault)
    → undefined_fault_or all u (twice_fault_or all t (mismatch_fault all m)) ≡ Some f → HasLine f
undefined_line all None t m f e = twice_line all t m f e
undefined_line all (Some i) t m f e = some_line (fault_at A2 _) f refl e

misspelt_line : (bytes : List ℕ) (f : Fault) → Misspells bytes f → HasLine f
misspelt_line bytes f (inl x) = lexical_line bytes f x
misspelt_line bytes f (inr (inl x)) = subst HasLine (sym x.bad.is) (syntax_line x.tokens x.bad.at x.bad.due)
misspelt_line bytes f (inr (inr x)) = undefined_line x.tokens (file_faults x.tokens x.bad.file).undefined
    (file_faults x.tokens x.bad.file).twice (file_faults x.tokens x.bad.file).mismatch f x.bad.finds

-- ---- rules

rule_line : (r : Rule) (p : Place) → HasLine (fault_at (rule_code r) p)
rule_line rule.Names p = refl
rule_line rule.Functions p = refl
rule_line rule.Regions p = refl
rule_line rule.Blocks p = refl
rule_line rule.Uses p = refl
rule_line rule.Types p = refl
rule_line rule.Attributes p = refl
rule_line rule.Callees p = refl
rule_line rule.Chains p = refl
rule_line rule.Maps p = refl
rule_line rule.Iterators p = refl
rule_line rule.Reductions p = refl
rule_line rule.Extents p = refl
rule_line rule.Bodies p = refl
rule_line rule.Ranges p = refl
rule_line rule.Slices p = refl

-- ---- files

no_payload_line : (file : List ℕ) (f : Fault) → IsNoPayload file f → HasLine f
no_payload_line file f (inl x) = subst HasLine (sym x.is) refl
no_payload_line file f (inr (inl x)) = misspelt_line file f x.misspells
no_payload_line file f (inr (inr x)) = subst HasLine (sym x.is) (rule_line x.violation.rule _)

pub refused_line : (file : List ℕ) (e : TextFault) → IsRefused file e → IsTellable e
refused_line file (text_fault.At f) r = no_payload_line file f r
refused_line file text_fault.NoMemory r = tt
