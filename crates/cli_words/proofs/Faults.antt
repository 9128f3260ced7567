-- What clap makes of words of which none is empty or begins with a hyphen.
use Rattle.std.proofs.Common.{◌≡◌, ◌≢◌, ◌==◌, ℕ, List, [], ◌∷◌, refl, true, false, codes, Some, Option, Bool}
use Rattle.std.proofs.Common.{option_map, ap, sym, ◌∙◌}
use Rattle.std.specs.Str.{bytes_eq}
use Rattle.clap.specs.Words.{Text, fault_of, is_simple_and_free, is_simple, subcommand_of, built, first_of}
use Rattle.clap.specs.Faults.{entered_fault, level_fault}
use Rattle.clap.specs.Kinds.{Kinds, or_else}
use Rattle.clap.specs.Simple.{Shape, names_of}
use Rattle.clap.specs.Walk.{Held, Names, Walk, nothing_held, stop_after, walk_from}
use Rattle.clap.proofs.WalkLemmas.{walk_stopped}
use Rattle.clap.proofs.OnLiterals.{clap_on_literals}
use Rattle.cli_words.specs.Line.{line_app}

pub simple : is_simple_and_free line_app ≡ true
simple = refl

pub is_simple-line : is_simple line_app ≡ true
is_simple-line = refl

-- no word
pub none_fails : fault_of line_app [] ≢ []
unfolding clap_on_literals
none_fails e = cc

-- `run` alone
pub run_taken : fault_of line_app (codes "run" ∷ []) ≡ []
unfolding clap_on_literals
run_taken = refl

pub run_read : subcommand_of line_app (codes "run" ∷ []) ≡ Some (codes "run", [])
unfolding clap_on_literals
run_read = refl

pub decode_taken : fault_of line_app (codes "decode" ∷ []) ≡ []
unfolding clap_on_literals
decode_taken = refl

pub decode_read : subcommand_of line_app (codes "decode" ∷ []) ≡ Some (codes "decode", [])
unfolding clap_on_literals
decode_read = refl

pub check_taken : fault_of line_app (codes "check" ∷ []) ≡ []
unfolding clap_on_literals
check_taken = refl

pub check_read : subcommand_of line_app (codes "check" ∷ []) ≡ Some (codes "check", [])
unfolding clap_on_literals
check_read = refl

pub generate_fails : fault_of line_app (codes "generate" ∷ []) ≢ []
unfolding clap_on_literals
generate_fails e = cc

pub number_taken : (x : ℕ) (xs : List ℕ) → (x == 45) ≡ false → fault_of line_app (codes "generate" ∷ (x ∷ xs) ∷ []) ≡ []
unfolding clap_on_literals
number_taken x xs e = simp e

pub number_read : (x : ℕ) (xs : List ℕ) → (x == 45) ≡ false
    → option_map {U = Text × Option Text} (λ p. (p.0, first_of (codes "number") p.1))
    (subcommand_of line_app (codes "generate" ∷ (x ∷ xs) ∷ [])) ≡ Some (codes "generate", Some (x ∷ xs))
unfolding clap_on_literals
number_read x xs e = simp e

-- a word that is no subcommand
pub stray_fails : (x : ℕ) (xs : List ℕ) (rest : List Text) → (x == 45) ≡ false
    → bytes_eq (codes "run") (x ∷ xs) ≡ false → bytes_eq (codes "decode") (x ∷ xs) ≡ false
    → bytes_eq (codes "check") (x ∷ xs) ≡ false → bytes_eq (codes "generate") (x ∷ xs) ≡ false
    → fault_of line_app ((x ∷ xs) ∷ rest) ≢ []
unfolding clap_on_literals
stray_fails x xs rest e r d k g h = let bad = simp (e, r, d, k, g) at h in cc

-- ---- words behind a name

parts_empty : (a b : Kinds) → or_else a b ≡ [] → (a ≡ []) × (b ≡ [])
parts_empty [] b h = (refl, h)
parts_empty (k ∷ ks) b h = cc

below_empty : (s : Shape) (names : Names) (h : Held) (words : List Text) (has : Bool) (below : Kinds)
    → level_fault s names h words has below ≡ [] → below ≡ []
below_empty s names h words has below e = (parts_empty below _ (parts_empty _ _ e).1).0

stop_run : (rest : List Text) → stop_after (built line_app).top.rules (names_of (built line_app)) (codes "run" ∷ rest)
    ≡ Some (codes "run", rest)
unfolding clap_on_literals
stop_run rest =
    sym
    (ap (λ (v : Walk). v.stopped)
    (walk_stopped (built line_app).top.rules (names_of (built line_app)) (walk_from nothing_held) (codes "run") []
    rest))

stop_decode : (rest : List Text)
    → stop_after (built line_app).top.rules (names_of (built line_app)) (codes "decode" ∷ rest)
    ≡ Some (codes "decode", rest)
unfolding clap_on_literals
stop_decode rest =
    sym
    (ap (λ (v : Walk). v.stopped)
    (walk_stopped (built line_app).top.rules (names_of (built line_app)) (walk_from nothing_held) (codes "decode") []
    rest))

stop_check : (rest : List Text)
    → stop_after (built line_app).top.rules (names_of (built line_app)) (codes "check" ∷ rest)
    ≡ Some (codes "check", rest)
unfolding clap_on_literals
stop_check rest =
    sym
    (ap (λ (v : Walk). v.stopped)
    (walk_stopped (built line_app).top.rules (names_of (built line_app)) (walk_from nothing_held) (codes "check") []
    rest))

stop_generate : (rest : List Text)
    → stop_after (built line_app).top.rules (names_of (built line_app)) (codes "generate" ∷ rest)
    ≡ Some (codes "generate", rest)
unfolding clap_on_literals
stop_generate rest =
    sym
    (ap (λ (v : Walk). v.stopped)
    (walk_stopped (built line_app).top.rules (names_of (built line_app)) (walk_from nothing_held) (codes "generate")
    [] rest))

in_run : (x : ℕ) (xs : List ℕ) (rest : List Text) → (x == 45) ≡ false
    → entered_fault (built line_app) (Some (codes "run", (x ∷ xs) ∷ rest)) ≢ []
unfolding clap_on_literals
in_run x xs rest e h = let bad = simp e at h in cc

in_decode : (x : ℕ) (xs : List ℕ) (rest : List Text) → (x == 45) ≡ false
    → entered_fault (built line_app) (Some (codes "decode", (x ∷ xs) ∷ rest)) ≢ []
unfolding clap_on_literals
in_decode x xs rest e h = let bad = simp e at h in cc

in_check : (x : ℕ) (xs : List ℕ) (rest : List Text) → (x == 45) ≡ false
    → entered_fault (built line_app) (Some (codes "check", (x ∷ xs) ∷ rest)) ≢ []
unfolding clap_on_literals
in_check x xs rest e h = let bad = simp e at h in cc

in_generate : (x : ℕ) (xs : List ℕ) (y : ℕ) (ys : List ℕ) (rest : List Text) → (x == 45) ≡ false → (y == 45) ≡ false
    → entered_fault (built line_app) (Some (codes "generate", (x ∷ xs) ∷ (y ∷ ys) ∷ rest)) ≢ []
unfolding clap_on_literals
in_generate x xs y ys rest e f h = let bad = simp (e, f) at h in cc

-- what a subcommand refuses is refused
entered_empty : (words : List Text) → fault_of line_app words ≡ []
    → entered_fault (built line_app) (stop_after (built line_app).top.rules (names_of (built line_app)) words) ≡ []
entered_empty words h = below_empty (built line_app).top (names_of (built line_app)) nothing_held words _ _ h

pub run_more : (x : ℕ) (xs : List ℕ) (rest : List Text) → (x == 45) ≡ false
    → fault_of line_app (codes "run" ∷ (x ∷ xs) ∷ rest) ≢ []
run_more x xs rest e h =
    in_run x xs rest e (ap (entered_fault (built line_app)) (sym (stop_run ((x ∷ xs) ∷ rest)))
    ∙ entered_empty (codes "run" ∷ (x ∷ xs) ∷ rest) h)

pub decode_more : (x : ℕ) (xs : List ℕ) (rest : List Text) → (x == 45) ≡ false
    → fault_of line_app (codes "decode" ∷ (x ∷ xs) ∷ rest) ≢ []
decode_more x xs rest e h =
    in_decode x xs rest e (ap (entered_fault (built line_app)) (sym (stop_decode ((x ∷ xs) ∷ rest)))
    ∙ entered_empty (codes "decode" ∷ (x ∷ xs) ∷ rest) h)

pub check_more : (x : ℕ) (xs : List ℕ) (rest : List Text) → (x == 45) ≡ false
    → fault_of line_app (codes "check" ∷ (x ∷ xs) ∷ rest) ≢ []
check_more x xs rest e h =
    in_check x xs rest e (ap (entered_fault (built line_app)) (sym (stop_check ((x ∷ xs) ∷ rest)))
    ∙ entered_empty (codes "check" ∷ (x ∷ xs) ∷ rest) h)

pub generate_more : (x : ℕ) (xs : List ℕ) (y : ℕ) (ys : List ℕ) (rest : List Text) → (x == 45) ≡ false
    → (y == 45) ≡ false
    → fault_of line_app (codes "generate" ∷ (x ∷ xs) ∷ (y ∷ ys) ∷ rest) ≢ []
generate_more x xs y ys rest e f h =
    in_generate x xs y ys rest e f
    (ap (entered_fault (built line_app)) (sym (stop_generate ((x ∷ xs) ∷ (y ∷ ys) ∷ rest)))
    ∙ entered_empty (codes "generate" ∷ (x ∷ xs) ∷ (y ∷ ys) ∷ rest) h)
