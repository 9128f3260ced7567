-- What the blocks under way carry of a channel.
use Rattle.std.proofs.Common.{◌≡◌, ◌<◌, ℕ, zero, suc, ◌+◌, List, [], ◌∷◌, ◌++◌, map, get_or, Option, Some, None}
use Rattle.std.proofs.Common.{slice_get, append_assoc, refl, ap, sym, subst, ◌∙◌, arith}
use Rattle.std.specs.List.{AllByRecursion}
use Rattle.law_rlc.specs.AmPair.Flow.{Copy, Report, except}
use Rattle.law_rlc.specs.AmPair.Given.{IsHeld as IsAtLeastHeld, IsYoung as IsYoungReport}
use Rattle.harq.specs.Sending.{Sending, held_of}
use Rattle.l2_node.specs.Finding.{Numbers, counted, lowest}
use Rattle.mac_pdu.specs.declared.item.Direction.{Direction}
use Rattle.law_node.proofs.Holders.{lowest_least}
use Rattle.law_node.proofs.Takings.{IsAtLeast}
use Rattle.law_deliver.specs.AmFlow.Air.{Block, older, IsHeld, IsYoung}
use Rattle.promises.specs.Pdus.{carried}
use Rattle.law_deliver.specs.AmFlow.Carrying.{CarriedPdu, Numbered, Reported}
use Rattle.law_deliver.specs.AmFlow.Pair.{older as older_sent}
use Rattle.law_deliver.proofs.AmFlow.Runs.{octets_of, texts_of}
use Rattle.law_bearer.proofs.AnyBearer.SenderCalls.{all_then}

-- a block under way, and the data PDUs and STATUS PDUs of the channel in it
pub record Load : Type 0 where
  pub block : Block
  pub copies : List Copy
  pub reports : List Report

abbrev pub all_copies : List Load → List Copy
all_copies [] = []
all_copies (x ∷ xs) = x.copies ++ all_copies xs

abbrev pub all_reports : List Load → List Report
all_reports [] = []
all_reports (x ∷ xs) = x.reports ++ all_reports xs

abbrev pub blocks_in : List Load → List Block
blocks_in xs = map (λ (x : Load). x.block) xs

-- as they were written
abbrev pub as_written : Report → CarriedPdu
as_written r = Reported (record r { age = 0 })

abbrev pub pdus_in : Load → List CarriedPdu
pdus_in x = map as_written x.reports ++ map (λ (c : Copy). Numbered c) x.copies

abbrev pub all_pdus : List Load → List (List CarriedPdu)
all_pdus xs = map pdus_in xs

-- the number that an end notes of a channel in the last block of a process
abbrev pub noted_of : Numbers → ℕ → ℕ → Option ℕ
noted_of numbers l p = get_or (get_or numbers p []) l None

abbrev pub IsNoted : Numbers → ℕ → ℕ → Copy → Type 0
IsNoted numbers l p c = noted_of numbers l p ≡ Some c.number

abbrev pub HasAge : ℕ → Report → Type 0
HasAge age r = r.age ≡ age

pub record IsLoad (l : ℕ) (d : Direction) (s : Sending) (numbers : Numbers) (x : Load) : Type 0 where
  pub carries : carried l d x.block.octets ≡ texts_of x.reports ++ octets_of x.copies
  pub process : x.block.process < 8
  pub aged : AllByRecursion (HasAge x.block.age) x.reports
  pub noted : (held_of s x.block.process ≡ None → ⊥) → AllByRecursion (IsNoted numbers l x.block.process) x.copies

-- ---- places

pub record Split (xs : List Load) (k : ℕ) (x : Load) : Type 0 where
  pub before : List Copy
  pub behind : List Copy
  pub pre : List Report
  pub post : List Report
  pub copies_are : all_copies xs ≡ before ++ (x.copies ++ behind)
  pub reports_are : all_reports xs ≡ pre ++ (x.reports ++ post)
  pub fewer_copies : all_copies (except k xs) ≡ before ++ behind
  pub fewer_reports : all_reports (except k xs) ≡ pre ++ post

pub split_at : (xs : List Load) (k : ℕ) (x : Load) → slice_get xs k ≡ Some x → Split xs k x
split_at [] k x q = let no : None ≡ Some x = q in absurd cc
split_at (y ∷ ys) zero x q =
    let same : Some y ≡ Some x = q in
    let is : y ≡ x = cc in
    subst (Split (y ∷ ys) zero) is (record {
      before = [];
      behind = all_copies ys;
      pre = [];
      post = all_reports ys;
      copies_are = refl;
      reports_are = refl;
      fewer_copies = refl;
      fewer_reports = refl;
    })
split_at (y ∷ ys) (suc k) x q =
    let h = split_at ys k x q in
    record {
      before = y.copies ++ h.before;
      behind = h.behind;
      pre = y.reports ++ h.pre;
      post = h.post;
      copies_are = ap (λ (l : List Copy). y.copies ++ l) h.copies_are
          ∙ sym (append_assoc y.copies h.before (x.copies ++ h.behind));
      reports_are = ap (λ (l : List Report). y.reports ++ l) h.reports_are
          ∙ sym (append_assoc y.reports h.pre (x.reports ++ h.post));
      fewer_copies = ap (λ (l : List Copy). y.copies ++ l) h.fewer_copies
          ∙ sym (append_assoc y.copies h.before h.behind);
      fewer_reports = ap (λ (l : List Report). y.reports ++ l) h.fewer_reports
          ∙ sym (append_assoc y.reports h.pre h.post);
    }

pub except_map : {A : Type 0} {B : Type 0} (f : A → B) (xs : List A) (k : ℕ)
    → map f (except k xs) ≡ except k (map f xs)
except_map f [] k = refl
except_map f (x ∷ xs) zero = refl
except_map f (x ∷ xs) (suc k) = ap (λ l. f x ∷ l) (except_map f xs k)

pub except_blocks : (xs : List Load) (k : ℕ) → blocks_in (except k xs) ≡ except k (blocks_in xs)
except_blocks xs k = except_map (λ (x : Load). x.block) xs k

pub except_all : {A : Type 0} (P : A → Type 0) (k : ℕ) (xs : List A) → AllByRecursion P xs
    → AllByRecursion P (except k xs)
except_all P k [] h = tt
except_all P zero (x ∷ xs) h = h.1
except_all P (suc k) (x ∷ xs) h = (h.0, except_all P k xs h.1)

pub all_at : {A : Type 0} (P : A → Type 0) (xs : List A) (k : ℕ) (x : A) → AllByRecursion P xs
    → slice_get xs k ≡ Some x → P x
all_at P [] k x h e = let no : None ≡ Some x = e in absurd cc
all_at P (y ∷ ys) zero x h e = let same : Some y ≡ Some x = e in let is : y ≡ x = cc in subst P is h.0
all_at P (y ∷ ys) (suc k) x h e = all_at P ys k x h.1 e

pub each : {A : Type 0} (P : A → Type 0) (Q : A → Type 0) → ((x : A) → P x → Q x) → (xs : List A)
    → AllByRecursion P xs → AllByRecursion Q xs
each P Q more [] h = tt
each P Q more (x ∷ xs) h = (more x h.0, each P Q more xs h.1)

-- ---- a TTI later

abbrev pub aged_load : Load → Load
aged_load x = record { block = older x.block; copies = x.copies; reports = map older_sent x.reports }

pub aged_copies : (xs : List Load) → all_copies (map aged_load xs) ≡ all_copies xs
aged_copies [] = refl
aged_copies (x ∷ xs) = ap (λ (l : List Copy). x.copies ++ l) (aged_copies xs)

map_more : (rs ss : List Report) → map older_sent (rs ++ ss) ≡ map older_sent rs ++ map older_sent ss
map_more [] ss = refl
map_more (r ∷ rs) ss = ap (λ (l : List Report). older_sent r ∷ l) (map_more rs ss)

pub aged_reports : (xs : List Load) → all_reports (map aged_load xs) ≡ map older_sent (all_reports xs)
aged_reports [] = refl
aged_reports (x ∷ xs) = ap (λ (l : List Report). map older_sent x.reports ++ l) (aged_reports xs)
    ∙ sym (map_more x.reports (all_reports xs))

pub aged_blocks : (xs : List Load) → blocks_in (map aged_load xs) ≡ map older (blocks_in xs)
aged_blocks [] = refl
aged_blocks (x ∷ xs) = ap (λ (l : List Block). older x.block ∷ l) (aged_blocks xs)

same_texts : (rs : List Report) → texts_of (map older_sent rs) ≡ texts_of rs
same_texts [] = refl
same_texts (r ∷ rs) = ap (λ (l : List (List ℕ)). r.octets ∷ l) (same_texts rs)

same_rows : (rs : List Report) → map as_written (map older_sent rs) ≡ map as_written rs
same_rows [] = refl
same_rows (r ∷ rs) = ap (λ (l : List CarriedPdu). as_written r ∷ l) (same_rows rs)

pub aged_pdus : (xs : List Load) → all_pdus (map aged_load xs) ≡ all_pdus xs
aged_pdus [] = refl
aged_pdus (x ∷ xs) =
    ap (λ (l : List CarriedPdu). (l ++ map (λ (c : Copy). Numbered c) x.copies) ∷ all_pdus (map aged_load xs))
    (same_rows x.reports)
    ∙ ap (λ (l : List (List CarriedPdu)). pdus_in x ∷ l) (aged_pdus xs)

next_ages : (age : ℕ) (rs : List Report) → AllByRecursion (HasAge age) rs
    → AllByRecursion (HasAge (age + 1)) (map older_sent rs)
next_ages age [] h = tt
next_ages age (r ∷ rs) h = (ap (λ (n : ℕ). n + 1) h.0, next_ages age rs h.1)

pub aged_all : (l : ℕ) (d : Direction) (s : Sending) (numbers : Numbers) (xs : List Load)
    → AllByRecursion (IsLoad l d s numbers) xs → AllByRecursion (IsLoad l d s numbers) (map aged_load xs)
aged_all l d s numbers [] h = tt
aged_all l d s numbers (x ∷ xs) h =
    let q = h.0 in (
      record {
        carries = q.carries ∙ ap (λ (ts : List (List ℕ)). ts ++ octets_of x.copies) (sym (same_texts x.reports));
        process = q.process;
        aged = next_ages x.block.age x.reports q.aged;
        noted = q.noted;
      },
      aged_all l d s numbers xs h.1,
    )

-- their STATUS PDUs are young where the blocks are
young_of : (age : ℕ) (rs : List Report) → age < 216 → AllByRecursion (HasAge age) rs → AllByRecursion IsYoungReport rs
young_of age [] lt h = tt
young_of age (r ∷ rs) lt h = let e = h.0 in (omega (arith, lt, e), young_of age rs lt h.1)

pub young_all : (l : ℕ) (d : Direction) (s : Sending) (numbers : Numbers) (xs : List Load)
    → AllByRecursion IsYoung (blocks_in xs) → AllByRecursion (IsLoad l d s numbers) xs
    → AllByRecursion IsYoungReport (all_reports xs)
young_all l d s numbers [] y h = tt
young_all l d s numbers (x ∷ xs) y h =
    let q = h.0 in
    all_then IsYoungReport x.reports (all_reports xs) (young_of x.block.age x.reports y.0 q.aged)
    (young_all l d s numbers xs y.1 h.1)

-- ---- the lowest number under way

held_noted : (h : Option (List ℕ)) (x : Option ℕ) (n : ℕ) → (h ≡ None → ⊥) → x ≡ Some n → counted h x ≡ Some n
held_noted None x n some e = absurd (some refl)
held_noted (Some block) x n some e = e

at_least : (low : Option ℕ) (c : Copy) → IsAtLeast low c.number → IsAtLeastHeld low c
at_least None c h = h
at_least (Some n) c h = h

lowest_one : (l p : ℕ) (s : Sending) (numbers : Numbers) (cs : List Copy) → p < 8 → (held_of s p ≡ None → ⊥)
    → AllByRecursion (IsNoted numbers l p) cs → AllByRecursion (IsAtLeastHeld (lowest s numbers l)) cs
lowest_one l p s numbers [] lt held h = tt
lowest_one l p s numbers (c ∷ cs) lt held h = (
  at_least (lowest s numbers l) c
      (lowest_least s numbers l p c.number lt (held_noted (held_of s p) (noted_of numbers l p) c.number held h.0)),
  lowest_one l p s numbers cs lt held h.1,
)

-- a process other than one holds a block under way
pub record IsHeldBy (process : ℕ) (s : Sending) (b : Block) : Type 0 where
  pub other : b.process ≡ process → ⊥
  pub held : IsHeld s b

pub held_by : (process : ℕ) (s : Sending) (bs : List Block) → held_of s process ≡ None → AllByRecursion (IsHeld s) bs
    → AllByRecursion (IsHeldBy process s) bs
held_by process s [] none h = tt
held_by process s (b ∷ bs) none h =
    (record { other = λ q. h.0 (ap (held_of s) q ∙ none); held = h.0 }, held_by process s bs none h.1)

-- of an end whose processes hold less than before
pub lowest_all : (l at : ℕ) (d : Direction) (s t : Sending) (numbers : Numbers) (xs : List Load)
    → ((p : ℕ) → held_of s p ≡ None → held_of t p ≡ None)
    → AllByRecursion (IsHeldBy at t) (blocks_in xs) → AllByRecursion (IsLoad l d s numbers) xs
    → AllByRecursion (IsAtLeastHeld (lowest t numbers l)) (all_copies xs)
lowest_all l at d s t numbers [] fewer b h = tt
lowest_all l at d s t numbers (x ∷ xs) fewer b h =
    let q = h.0 in
    let held = b.0 in
    let p = x.block.process in
    all_then (IsAtLeastHeld (lowest t numbers l)) x.copies (all_copies xs)
    (lowest_one l p t numbers x.copies q.process held.held (q.noted (λ none. held.held (fewer p none))))
    (lowest_all l at d s t numbers xs fewer b.1 h.1)
