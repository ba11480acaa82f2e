-- A printed string stands for its bytes.
use Rattle.std.proofs.Common.{◌≡◌, ℕ, ◌+◌, ◌*◌, ◌/◌, ◌%◌, ◌<◌, Bool, true, false, List, [], ◌∷◌, ◌++◌, refl, ap, ◌∙◌}
use Rattle.std.proofs.Common.{arith, append_assoc}
use Rattle.std.specs.Prelude.{◌==◌}
use Rattle.std.specs.Char.{digit_value}
use Rattle.std.specs.List.{flat_map}
use Rattle.std.proofs.lemmas.Bool.Decides.{nat_tests}
use Rattle.xf_type.specs.Bytes.{is_hex}
use Rattle.xf_grammar.specs.Apart.{is_low}
use Rattle.xf_format.specs.Strings.{decoded}
use Rattle.xf_ir.specs.Lists.{Each}
use Rattle.xf_printed.specs.Attributes.{hex_digit, is_plain, byte_text, string_text}

pub hex_is : (d : ℕ) → d < 16 → is_hex (hex_digit d) ≡ true
hex_is d h = grind (arith, nat_tests)

hex_value : (d : ℕ) → d < 16 → digit_value (hex_digit d) ≡ d
hex_value d h = grind (arith, nat_tests)

-- a plain byte is no line feed, quote or \
pub plain_apart : (b : ℕ) → is_plain b ≡ true
    → (is_low b ≡ true) × ((b == 10) ≡ false) × ((b == 34) ≡ false) × ((b == 92) ≡ false)
plain_apart b h =
    (grind (arith, nat_tests), grind (arith, nat_tests), grind (arith, nat_tests), grind (arith, nat_tests))

-- the digits of a byte give the byte
two_digits : (b : ℕ) → b < 256 → (digit_value (hex_digit (b / 16)) * 16 + digit_value (hex_digit (b % 16))) % 256 ≡ b
two_digits b h =
    let high : b / 16 < 16 = omega arith in
    let low : b % 16 < 16 = omega arith in
    let p = hex_value (b / 16) high in
    let q = hex_value (b % 16) low in
    rw (p, q) (omega arith)

-- what bytes behind a quote stand for
abbrev read_on : List ℕ → List ℕ
read_on bytes = decoded (34 ∷ bytes)

one_byte : (plain : Bool) (b : ℕ) (rest : List ℕ) → is_plain b ≡ plain → b < 256
    → read_on (byte_text b ++ rest) ≡ b ∷ read_on rest
one_byte true b rest e h = let p = plain_apart b e in let q = p.2 in let r = p.3 in rw (e, q, r) refl
one_byte false b rest e h =
    let high : b / 16 < 16 = omega arith in
    let p = hex_is (b / 16) high in
    let q = two_digits b h in
    rw (e, p) (ap (λ x. x ∷ read_on rest) q)

decoded_bytes : (bytes : List ℕ) → Each (λ b. b < 256) bytes → read_on (flat_map byte_text bytes ++ 34 ∷ []) ≡ bytes
decoded_bytes [] e = refl
decoded_bytes (b ∷ bytes) e =
    ap read_on (append_assoc (byte_text b) (flat_map byte_text bytes) (34 ∷ []))
    ∙ (one_byte (is_plain b) b (flat_map byte_text bytes ++ 34 ∷ []) refl e.0 ∙ ap (λ xs. b ∷ xs)
    (decoded_bytes bytes e.1))

pub string_again : (bytes : List ℕ) → Each (λ b. b < 256) bytes → decoded (string_text bytes) ≡ bytes
string_again bytes e = decoded_bytes bytes e
