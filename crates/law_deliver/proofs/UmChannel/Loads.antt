-- What blocks under way carry of a channel whose bearer is unacknowledged: data PDUs alone.
use Rattle.std.proofs.Common.{◌≡◌, ℕ, zero, suc, ◌+◌, List, [], ◌∷◌, ◌++◌, map, length, Some, None, slice_get}
use Rattle.std.proofs.Common.{append_assoc, length-append, refl, ap, sym, subst, ◌∙◌}
use Rattle.std.specs.List.{AllByRecursion}
use Rattle.law_rlc.specs.AmPair.Flow.{Copy, Report, except}
use Rattle.harq.specs.Sending.{Sending}
use Rattle.l2_node.specs.Finding.{Numbers}
use Rattle.mac_pdu.specs.declared.item.Direction.{Direction}
use Rattle.promises.specs.Pdus.{carried}
use Rattle.law_deliver.specs.AmFlow.Pair.{older as older_sent}
use Rattle.law_deliver.proofs.AmFlow.Loads.{Load, all_copies, blocks_in, aged_load, IsLoad}
use Rattle.law_deliver.proofs.AmFlow.Runs.{octets_of, texts_of}
use Rattle.law_deliver.specs.UmChannel.Pairs.{count_before}

-- no STATUS is in it
abbrev pub IsBare : Load → Type 0
IsBare x = x.reports ≡ []

pub aged_bare : (xs : List Load) → AllByRecursion IsBare xs → AllByRecursion IsBare (map aged_load xs)
aged_bare [] h = tt
aged_bare (x ∷ xs) h = (ap (λ (rs : List Report). map older_sent rs) h.0, aged_bare xs h.1)

abbrev pub Carries : ℕ → Direction → Load → Type 0
Carries l d x = carried l d x.block.octets ≡ octets_of x.copies

pub carries_one : (l : ℕ) (d : Direction) (s : Sending) (numbers : Numbers) (x : Load) → IsLoad l d s numbers x
    → IsBare x → Carries l d x
carries_one l d s numbers x h bare = h.carries ∙ ap (λ (rs : List Report). texts_of rs ++ octets_of x.copies) bare

pub carries_all : (l : ℕ) (d : Direction) (s : Sending) (numbers : Numbers) (xs : List Load)
    → AllByRecursion (IsLoad l d s numbers) xs → AllByRecursion IsBare xs → AllByRecursion (Carries l d) xs
carries_all l d s numbers [] h bare = tt
carries_all l d s numbers (x ∷ xs) h bare =
    (carries_one l d s numbers x h.0 bare.0, carries_all l d s numbers xs h.1 bare.1)

-- ---- places

many : (cs : List Copy) → length (octets_of cs) ≡ length cs
many [] = refl
many (c ∷ cs) = ap suc (many cs)

pub many_in : (l : ℕ) (d : Direction) (x : Load) → Carries l d x → length (carried l d x.block.octets) ≡ length x.copies
many_in l d x h = ap length h ∙ many x.copies

pub record Split (l : ℕ) (d : Direction) (xs : List Load) (k : ℕ) (x : Load) : Type 0 where
  pub before : List Copy
  pub behind : List Copy
  pub copies_are : all_copies xs ≡ before ++ (x.copies ++ behind)
  pub fewer_copies : all_copies (except k xs) ≡ before ++ behind
  pub count_is : length before ≡ count_before l d k (blocks_in xs)

pub split_at : (l : ℕ) (d : Direction) (xs : List Load) (k : ℕ) (x : Load) → AllByRecursion (Carries l d) xs
    → slice_get xs k ≡ Some x → Split l d xs k x
split_at l d [] k x h q = let no : None ≡ Some x = q in absurd cc
split_at l d (y ∷ ys) zero x h q =
    let same : Some y ≡ Some x = q in
    let is : y ≡ x = cc in
    subst (Split l d (y ∷ ys) zero) is
    (record { before = []; behind = all_copies ys; copies_are = refl; fewer_copies = refl; count_is = refl })
split_at l d (y ∷ ys) (suc k) x h q =
    let r = split_at l d ys k x h.1 q in
    record {
      before = y.copies ++ r.before;
      behind = r.behind;
      copies_are = ap (λ (cs : List Copy). y.copies ++ cs) r.copies_are
          ∙ sym (append_assoc y.copies r.before (x.copies ++ r.behind));
      fewer_copies = ap (λ (cs : List Copy). y.copies ++ cs) r.fewer_copies
          ∙ sym (append_assoc y.copies r.before r.behind);
      count_is =
          length-append y.copies r.before ∙ ap (λ (n : ℕ). n + length r.before) (sym (many_in l d y h.0))
          ∙ ap (λ (n : ℕ). length (carried l d y.block.octets) + n) r.count_is;
    }
