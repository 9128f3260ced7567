-- The numbers of the lines that a script's run accepts grow.
use Rattle.std.proofs.Common.{◌≡◌, ◌≤◌, ◌<◌, ◌+◌, ℕ, suc, Bool, true, false, if◌then◌else◌, List, [], ◌∷◌, ◌++◌}
use Rattle.std.proofs.Common.{Option, Some, None, Result, Ok, Err, refl, sym, subst, arith}
use Rattle.std.specs.Prelude.{nat_lt, IsTrue}
use Rattle.std.specs.List.{filter, list_all}
use Rattle.std.proofs.lemmas.Bool.Decides.{nat_tests}
use Rattle.air_record.specs.declared.line.Line.{Line}
use Rattle.air_run.specs.Journal.{RunClose}
use Rattle.air_text.specs.Groups.{Group}
use Rattle.air_text.specs.Reading.{read_of}
use Rattle.air_text.specs.declared.fault.LineRefusal.{LineRefusal}
use Rattle.line_player.specs.Journal.{Refused}
use Rattle.law_run.specs.Script.{NumberedLine, said, said_from, is_end, to_end, before, accepted_lines, texts}
use Rattle.law_run.specs.Script.{lines_of, LinesAscend}

-- each number is at least the one before it and one more
abbrev Ascend : ℕ → List NumberedLine → Type 0
Ascend n [] = Unit {0}
Ascend n (one ∷ more) = (n ≤ one.number) × Ascend (suc one.number) more

lower : (m n : ℕ) (all : List NumberedLine) → m ≤ n → Ascend n all → Ascend m all
lower m n [] below h = h
lower m n (one ∷ more) below h = (omega (arith, below, h.0), h.1)

said-ascend : (n : ℕ) (texts : List (List ℕ)) → Ascend n (said_from n texts)
said-ascend n [] = tt
said-ascend n (text ∷ texts) =
    let next : n + 1 ≡ suc n = omega arith in
    by (read_of text) (subst (λ m. Ascend m (said_from (n + 1) texts)) next (said-ascend (n + 1) texts))
  where
    by : (read : Result (Option Line) LineRefusal) → Ascend (suc n) (said_from (n + 1) texts)
        → Ascend n (said n read ++ said_from (n + 1) texts)
    by (Ok (Some line)) more = (omega arith, more)
    by (Ok None) more = lower n (suc n) (said_from (n + 1) texts) (omega arith) more
    by (Err broken) more = lower n (suc n) (said_from (n + 1) texts) (omega arith) more

to-end-ascend : (n : ℕ) (all : List NumberedLine) → Ascend n all → Ascend n (to_end all)
to-end-ascend n [] h = h
to-end-ascend n (one ∷ more) h = (h.0, by (is_end one.line) (to-end-ascend (suc one.number) more h.1))
  where
    by : (b : Bool) → Ascend (suc one.number) (to_end more)
        → Ascend (suc one.number) (if b then [] else to_end more)
    by true behind = tt
    by false behind = behind

filter-ascend : (p : NumberedLine → Bool) (n : ℕ) (all : List NumberedLine) → Ascend n all → Ascend n (filter p all)
filter-ascend p n [] h = h
filter-ascend p n (one ∷ more) h = by (p one) (filter-ascend p (suc one.number) more h.1)
  where
    by : (b : Bool) → Ascend (suc one.number) (filter p more)
        → Ascend n (if b then one ∷ filter p more else filter p more)
    by true behind = (h.0, behind)
    by false behind = lower n (suc one.number) (filter p more) (omega (arith, h.0)) behind

accepted-ascend : (whole : Bool) (octets : List ℕ) (close : RunClose) → Ascend 1 (accepted_lines whole octets close)
accepted-ascend whole octets close = by close
  where
    all : Ascend 1 (to_end (said_from 1 (texts whole octets)))
    all = to-end-ascend 1 (said_from 1 (texts whole octets)) (said-ascend 1 (texts whole octets))

    by : (close : RunClose) → Ascend 1 (before close (to_end (said_from 1 (texts whole octets))))
    by (Refused number reason) =
        filter-ascend (λ one. nat_lt one.number number) 1 (to_end (said_from 1 (texts whole octets))) all
    by close = all

-- ---- of groups

abbrev AreBelow : ℕ → List NumberedLine → Type 0
AreBelow n [] = Unit {0}
AreBelow n (one ∷ more) = (one.number < n) × AreBelow n more

-- those before the last
last-ascends : (n : ℕ) (all : List NumberedLine) (last : NumberedLine) → Ascend n (all ++ last ∷ [])
    → (n ≤ last.number) × Ascend n all × AreBelow last.number all
last-ascends n [] last h = (h.0, tt, tt)
last-ascends n (one ∷ more) last h =
    let p = last-ascends (suc one.number) more last h.1 in
    (omega (arith, h.0, p.0), (h.0, p.1), (omega (arith, p.0), p.2))

last-below : (n : ℕ) (all : List NumberedLine) (last : NumberedLine) → AreBelow n (all ++ last ∷ [])
    → AreBelow n all × (last.number < n)
last-below n [] last h = (tt, h.0)
last-below n (one ∷ more) last h = let p = last-below n more last h.1 in ((h.0, p.0), p.1)

groups-below : (n : ℕ) (past : List Group) → AreBelow n (lines_of past)
    → IsTrue (list_all (λ g. nat_lt g.number n) past)
groups-below n [] h = refl
groups-below n (g ∷ past) h =
    let p = last-below n (lines_of past) (record { number = g.number; line = g.line }) h in
    let first : nat_lt g.number n ≡ true = grind (arith, nat_tests, p.1) in
    rw first (groups-below n past p.0)

groups-ascend : (n : ℕ) (past : List Group) → Ascend n (lines_of past) → LinesAscend past
groups-ascend n [] h = tt
groups-ascend n (g ∷ past) h =
    let p = last-ascends n (lines_of past) (record { number = g.number; line = g.line }) h in
    (groups-below g.number past p.2, groups-ascend n past p.1)

pub lines_ascend : (whole : Bool) (octets : List ℕ) (close : RunClose) (past : List Group)
    → lines_of past ≡ accepted_lines whole octets close → LinesAscend past
lines_ascend whole octets close past are =
    groups-ascend 1 past
    (subst (Ascend 1) (sym are) (accepted-ascend whole octets close))
