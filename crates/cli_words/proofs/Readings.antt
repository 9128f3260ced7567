-- The command that clap finds is the command that the words are.
use Rattle.std.proofs.Common.{◌≡◌, ◌≢◌, ◌==◌, ◌⊎◌, ◌&&◌, ◌∙◌, ℕ, Bool, not, List, [], ◌∷◌, refl, true, false, codes}
use Rattle.std.proofs.Common.{None, ap, sym, inl, inr, subst, map, option_map, if◌then◌else◌}
use Rattle.std.proofs.lemmas.Bool.{eqb-true, false≢true, false_from_ne_true}
use Rattle.std.proofs.lemmas.Slice.Eq.{bytes_eq-Decides}
use Rattle.std.specs.List.{list_all}
use Rattle.std.specs.Str.{bytes_eq}
use Rattle.clap.specs.Kinds.{HasKind, Kinds}
use Rattle.clap.specs.Words.{Text, fault_of, kind_of, subcommand_of}
use Rattle.clap.specs.declared.error.Error.{Error}
use Rattle.clap.specs.declared.error.kind.ErrorKind.TheVariants.{OutOfMemory}
use Rattle.clap.proofs.OnLiterals.{clap_on_literals}
use Rattle.cli_words.specs.Commands.{command_of, lone_command, command_with, number_in}
use Rattle.cli_words.specs.declared.command.Command.TheVariants.{Generate}
use Rattle.cli_words.specs.Line.{line_app, command_in, is_plain, are_plain}
use Rattle.cli_words.proofs.Faults.{none_fails, run_taken, run_read, run_more, decode_more, generate_more, decode_taken}
use Rattle.cli_words.proofs.Faults.{decode_read, check_taken, check_read, check_more, generate_fails, number_taken}
use Rattle.cli_words.proofs.Faults.{stray_fails}

-- a word that is no subcommand's name
record IsOther (word : Text) : Type 0 where
  no_run : word ≢ codes "run"
  no_decode : word ≢ codes "decode"
  no_check : word ≢ codes "check"
  no_generate : word ≢ codes "generate"

abbrev Name : Text → Type 0
Name word = (word ≡ codes "run") ⊎ (word ≡ codes "decode") ⊎ (word ≡ codes "check") ⊎ (word ≡ codes "generate")
    ⊎ IsOther word

differs : (a b : Text) → a ≢ b → bytes_eq a b ≡ false
differs a b ne = false_from_ne_true (bytes_eq a b) (λ e. ne ((bytes_eq-Decides a b).0 e))

same_or_not : (a b : Text) → (a ≡ b) ⊎ (a ≢ b)
same_or_not a b = go (bytes_eq a b) refl
  where
    go : (t : Bool) → bytes_eq a b ≡ t → (a ≡ b) ⊎ (a ≢ b)
    go true e = inl ((bytes_eq-Decides a b).0 e)
    go false e = inr (λ same. absurd (false≢true (sym e ∙ (bytes_eq-Decides a b).1 same)))

name_of : (word : Text) → Name word
name_of word = elim (same_or_not word (codes "run")) [
  | inl run ↦ inl run
  | inr no_run ↦ elim (same_or_not word (codes "decode")) [
    | inl decode ↦ inr (inl decode)
    | inr no_decode ↦ elim (same_or_not word (codes "check")) [
      | inl check ↦ inr (inr (inl check))
      | inr no_check ↦ elim (same_or_not word (codes "generate")) [
        | inl generate ↦ inr (inr (inr (inl generate)))
        | inr no_generate ↦ inr (inr (inr (inr (record {
          no_run = no_run;
          no_decode = no_decode;
          no_check = no_check;
          no_generate = no_generate;
        }))))
      ]
    ]
  ]
]

no_command : (word : Text) (rest : List Text) → IsOther word → command_of (word ∷ rest) ≡ None
no_command word [] other =
    rw (
      differs word (codes "run") other.no_run,
      differs word (codes "decode") other.no_decode,
      differs word (codes "check") other.no_check,
    ) refl
no_command word (number ∷ []) other = rw (differs word (codes "generate") other.no_generate) refl
no_command word (number ∷ more ∷ rest) other = refl

-- more words than the command has
longer : (name word : Text) (rest : List Text) → bytes_eq name (codes "generate") ≡ false
    → command_of (name ∷ word ∷ rest) ≡ None
longer name word [] e = rw e refl
longer name word (more ∷ rest) e = refl

number_found : (x : ℕ) (xs : List ℕ) → (x == 45) ≡ false
    → command_in (subcommand_of line_app (codes "generate" ∷ (x ∷ xs) ∷ []))
    ≡ command_of (codes "generate" ∷ (x ∷ xs) ∷ [])
unfolding clap_on_literals
number_found x xs e = simp e

-- clap takes the words and finds their command, or it refuses them and they are none
abbrev Verdict : List Text → Type 0
Verdict words = ((fault_of line_app words ≡ []) × (command_in (subcommand_of line_app words) ≡ command_of words))
    ⊎ ((fault_of line_app words ≢ []) × (command_of words ≡ None))

first_plain : (x : ℕ) (xs : List ℕ) (rest : List Text) → are_plain ((x ∷ xs) ∷ rest) ≡ true
    → ((x == 45) ≡ false) × (are_plain rest ≡ true)
first_plain x xs rest p = go (x == 45) p
  where
    go : (b : Bool) → (not b && are_plain rest) ≡ true → (b ≡ false) × (are_plain rest ≡ true)
    go true h = cc
    go false h = (refl, h)

run_verdict : (rest : List Text) → are_plain rest ≡ true → Verdict (codes "run" ∷ rest)
run_verdict [] p = inl (run_taken, ap command_in run_read)
run_verdict ([] ∷ rest) p = absurd (false≢true p)
run_verdict ((x ∷ xs) ∷ rest) p =
    inr (run_more x xs rest (first_plain x xs rest p).0, longer (codes "run") (x ∷ xs) rest refl)

decode_verdict : (rest : List Text) → are_plain rest ≡ true → Verdict (codes "decode" ∷ rest)
decode_verdict [] p = inl (decode_taken, ap command_in decode_read)
decode_verdict ([] ∷ rest) p = absurd (false≢true p)
decode_verdict ((x ∷ xs) ∷ rest) p =
    inr (decode_more x xs rest (first_plain x xs rest p).0, longer (codes "decode") (x ∷ xs) rest refl)

check_verdict : (rest : List Text) → are_plain rest ≡ true → Verdict (codes "check" ∷ rest)
check_verdict [] p = inl (check_taken, ap command_in check_read)
check_verdict ([] ∷ rest) p = absurd (false≢true p)
check_verdict ((x ∷ xs) ∷ rest) p =
    inr (check_more x xs rest (first_plain x xs rest p).0, longer (codes "check") (x ∷ xs) rest refl)

generate_verdict : (rest : List Text) → are_plain rest ≡ true → Verdict (codes "generate" ∷ rest)
generate_verdict [] p = inr (generate_fails, refl)
generate_verdict ([] ∷ rest) p = absurd (false≢true p)
generate_verdict ((x ∷ xs) ∷ []) p = let e = (first_plain x xs [] p).0 in inl (number_taken x xs e, number_found x xs e)
generate_verdict ((x ∷ xs) ∷ [] ∷ rest) p = absurd (false≢true (first_plain x xs ([] ∷ rest) p).1)
generate_verdict ((x ∷ xs) ∷ (y ∷ ys) ∷ rest) p =
    let first = first_plain x xs ((y ∷ ys) ∷ rest) p in
    inr (generate_more x xs y ys rest first.0 (first_plain y ys rest first.1).0, refl)

other_verdict : (x : ℕ) (xs : List ℕ) (rest : List Text) → IsOther (x ∷ xs) → (x == 45) ≡ false
    → Verdict ((x ∷ xs) ∷ rest)
other_verdict x xs rest other e = inr (
  stray_fails x xs rest e (differs _ _ (λ s. other.no_run (sym s))) (differs _ _ (λ s. other.no_decode (sym s)))
      (differs _ _ (λ s. other.no_check (sym s))) (differs _ _ (λ s. other.no_generate (sym s))),
  no_command (x ∷ xs) rest other,
)

pub verdict : (words : List Text) → are_plain words ≡ true → Verdict words
verdict [] p = inr (none_fails, refl)
verdict ([] ∷ rest) p = absurd (false≢true p)
verdict ((x ∷ xs) ∷ rest) p =
    let first = first_plain x xs rest p in
    elim (name_of (x ∷ xs)) [
      | inl run ↦ subst (λ (word : Text). Verdict (word ∷ rest)) (sym run) (run_verdict rest first.1)
      | inr more ↦ elim more [
        | inl decode ↦ subst (λ (word : Text). Verdict (word ∷ rest)) (sym decode) (decode_verdict rest first.1)
        | inr left ↦ elim left [
          | inl check ↦ subst (λ (word : Text). Verdict (word ∷ rest)) (sym check) (check_verdict rest first.1)
          | inr last ↦ elim last [
            | inl generate ↦
                subst (λ (word : Text). Verdict (word ∷ rest)) (sym generate) (generate_verdict rest first.1)
            | inr other ↦ other_verdict x xs rest other first.0
          ]
        ]
      ]
    ]

-- where clap takes the words it finds their command
pub reads : (words : List Text) → are_plain words ≡ true → fault_of line_app words ≡ []
    → command_in (subcommand_of line_app words) ≡ command_of words
reads words p taken = elim (verdict words p) [
  | inl found ↦ found.1
  | inr refused ↦ absurd (refused.0 taken)
]

-- where it refuses them they are no command
pub refuses : (words : List Text) → are_plain words ≡ true → fault_of line_app words ≢ [] → command_of words ≡ None
refuses words p refused = elim (verdict words p) [
  | inl found ↦ absurd (refused found.0)
  | inr none ↦ none.1
]

-- a word that is empty or begins with a hyphen
hyphen_or_none : (P : Text → Type 0) → P [] → ((rest : List ℕ) → P (45 ∷ rest)) → (word : Text)
    → is_plain word ≡ false → P word
hyphen_or_none P none hyphen [] p = none
hyphen_or_none P none hyphen (x ∷ xs) p = subst (λ (y : ℕ). P (y ∷ xs)) (sym (go (x == 45) refl p)) (hyphen xs)
  where
    go : (b : Bool) → (x == 45) ≡ b → not b ≡ false → x ≡ 45
    go true e h = eqb-true x 45 e
    go false e h = cc

lone_hyphen : (word : Text) → is_plain word ≡ false → lone_command word ≡ None
lone_hyphen = hyphen_or_none (λ (word : Text). lone_command word ≡ None) refl (λ rest. refl)

first_hyphen : (number word : Text) → is_plain word ≡ false → command_with word number ≡ None
first_hyphen number = hyphen_or_none (λ (word : Text). command_with word number ≡ None) refl (λ rest. refl)

number_hyphen : (number : Text) → is_plain number ≡ false → number_in number ≡ None
number_hyphen = hyphen_or_none (λ (number : Text). number_in number ≡ None) refl (λ rest. refl)

second_hyphen : (word number : Text) → is_plain number ≡ false → command_with word number ≡ None
second_hyphen word number p = go (bytes_eq word (codes "generate"))
  where
    go : (b : Bool) → (if b then option_map Generate (number_in number) else None) ≡ None
    go true = rw (number_hyphen number p) refl
    go false = refl

-- nor where a word is empty or begins with a hyphen
pub hyphens : (words : List Text) → are_plain words ≡ false → command_of words ≡ None
hyphens [] p = refl
hyphens (word ∷ []) p = lone_hyphen word (go (is_plain word) p)
  where
    go : (b : Bool) → (b && true) ≡ false → b ≡ false
    go true h = cc
    go false h = refl
hyphens (word ∷ number ∷ []) p = go (is_plain word) (is_plain number) refl refl p
  where
    go : (a b : Bool) → is_plain word ≡ a → is_plain number ≡ b → (a && (b && true)) ≡ false
        → command_with word number ≡ None
    go false b first second h = first_hyphen number word first
    go true false first second h = second_hyphen word number second
    go true true first second h = cc
hyphens (word ∷ number ∷ more ∷ rest) p = refl

-- the test as the code makes it, of the texts of strings
pub plain_strings : {S : Type 0} (text : S → Text) (strings : List S)
    → list_all (λ s. is_plain (text s)) strings ≡ are_plain (map text strings)
plain_strings text [] = refl
plain_strings text (s ∷ rest) = ap (λ (b : Bool). is_plain (text s) && b) (plain_strings text rest)

-- an error of another kind than want of memory is a refusal
pub kind_refuses : (kinds : Kinds) (e : Error) → kind_of e ≢ OutOfMemory → HasKind kinds e → kinds ≢ []
kind_refuses kinds e other (inl same) none = other same
kind_refuses [] e other (inr among) none = among
kind_refuses (k ∷ ks) e other (inr among) none = cc
