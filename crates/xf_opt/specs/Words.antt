-- The words of a call.
use Rattle.std.specs.Prelude.{ℕ, List, [], ◌∷◌, Bool, false, not, ◌&&◌, ◌==◌, Option, Some, None, codes, map, String}
use Rattle.std.specs.Prelude.{string_bytes, if◌then◌else◌}
use Rattle.std.specs.declared.alloc.Global.{Global}
use Rattle.std.specs.Str.{bytes_eq}

-- the words as lists of bytes
abbrev pub texts : List (String Global) → List (List ℕ)
texts words = map string_bytes words

-- what the words ask for, with the paths that they give
pub data Asked : Type 0 where
  run : (script payload : List ℕ) → Asked
  verify : (payload : List ℕ) → Asked
  print : (payload : List ℕ) → Asked

abbrev pub begins_with_dash : List ℕ → Bool
begins_with_dash [] = false
begins_with_dash (b ∷ bs) = b == 45

-- whether a word may stand for a path
abbrev pub is_path : List ℕ → Bool
is_path word = not (begins_with_dash word)

-- a command that takes a payload alone
abbrev pub payload_command : List ℕ → List ℕ → Option Asked
payload_command command payload =
    if bytes_eq command (codes "verify") then Some (verify payload)
    else if bytes_eq command (codes "print") then Some (print payload)
    else None

-- the command and the names of its options
abbrev pub are_run : List ℕ → List ℕ → List ℕ → Bool
are_run command script_option payload_option =
    bytes_eq command (codes "run")
    && (bytes_eq script_option (codes "--script") && bytes_eq payload_option (codes "--payload"))

-- `verify --payload P` or `print --payload P`, where the path does not begin with `-`
abbrev pub payload_words : List ℕ → List ℕ → List ℕ → Option Asked
payload_words command option payload =
    if bytes_eq option (codes "--payload") && is_path payload then payload_command command payload else None

-- `run --script S --payload P`, where neither path begins with `-`
abbrev pub run_words : List ℕ → List ℕ → List ℕ → List ℕ → List ℕ → Option Asked
run_words command script_option script payload_option payload =
    if are_run command script_option payload_option
    then (if is_path script && is_path payload then Some (run script payload) else None)
    else None

-- the words of one of the commands
abbrev pub command_of : List (List ℕ) → Option Asked
command_of (command ∷ option ∷ payload ∷ []) = payload_words command option payload
command_of (command ∷ script_option ∷ script ∷ payload_option ∷ payload ∷ []) =
    run_words command script_option script payload_option payload
command_of words = None

-- ---- paths

-- the path of the script, where there is one
abbrev pub script_of : Asked → Option (List ℕ)
script_of (run script payload) = Some script
script_of (verify payload) = None
script_of (print payload) = None

abbrev pub payload_of : Asked → List ℕ
payload_of (run script payload) = payload
payload_of (verify payload) = payload
payload_of (print payload) = payload
