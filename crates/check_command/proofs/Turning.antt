-- What a turn leaves, by what was cut and what the checker says of it.
use Rattle.std.proofs.Common.{◌≡◌, ◌⊎◌, ◌∙◌, ◌<◌, ◌≤◌, ◌+◌, nat_lt, true, false, if◌then◌else◌, ℕ, List, [], ◌∷◌, ◌++◌}
use Rattle.std.proofs.Common.{length, refl, ap, sym, arith, inl, inr, append_assoc, append-nil, subst}
use Rattle.std.specs.Prelude.{Option, Err}
use Rattle.std.proofs.lemmas.Bool.Decides.{nat_tests}
use Rattle.l2_io.specs.Known.{before, HasRisen}
use Rattle.l2_io.specs.Feeds.{until_feed, from_feed}
use Rattle.l2_io.specs.Cutting.{Cutter, CutsLine, CutsLast, CutsLong, CutsFault, Cuts}
use Rattle.l2_io.specs.declared.lines.Stand.TheVariants as stands
use Rattle.l2_io.specs.declared.lines.Turn.TheVariants as cuts
use Rattle.l2_io.proofs.Reading.{before-before, before-nothing}
use Rattle.l2_io.proofs.Written.{risen_from}
use Rattle.line_player.specs.Lines.{tail_of}
use Rattle.line_player.specs.Streams.{Input}
use Rattle.line_player.proofs.Cutting.{tail-none, feed-cases}
use Rattle.line_player.proofs.Turning.{CameNext}
use Rattle.l2_io.proofs.Feeds.{until_feed_whole}
use Rattle.journal_check.specs.declared.fault.CheckFault.{CheckFault}
use Rattle.journal_check.specs.declared.fault.CheckFault.TheVariants.{Refused, NoMemory}
use Rattle.journal_check.specs.declared.fault.CheckWhy.{CheckWhy}
use Rattle.journal_check.specs.declared.fault.CheckWhy.TheVariants as words
use Rattle.journal_check.specs.Checked.{CheckerState, HasFed, Takes, Feeds, IsBadText, IsRefusedAt}
use Rattle.journal_check.specs.Grouped.{GroupedRecords, no_records, record_count, with_record}
use Rattle.check_command.specs.Checking.{text_in, texts_ended, last_text, all_texts, IsHopeless}
use Rattle.check_command.specs.Reading.{verdict_by, long_verdict, Judges, HasTaken, HasTakenAll}
use Rattle.check_command.specs.declared.verdict.Verdict.{Verdict}
use Rattle.check_command.specs.declared.verdict.Verdict.TheVariants as verdicts
use Rattle.check_command.proofs.Counting.{one-more}
use Rattle.check_command.proofs.Texts.{text-short, text-long, texts-line, texts-more, tail-more, texts-none, last-some}
use Rattle.check_command.proofs.Texts.{reads-more}

gave-on : (a b : List ℕ) (l0 l1 l2 : Option (List ℕ)) → l0 ≡ before a l1 → l1 ≡ before b l2 → l0 ≡ before (a ++ b) l2
gave-on a b l0 l1 l2 first second = first ∙ ap (before a) second ∙ before-before a b l2

-- ---- before the first line

pub begins : (first : Input) (c : CheckerState) → HasFed no_records c → HasTaken first first [] c 1
begins first c fed = record {
  given = [];
  left_is = sym (before-nothing first.left);
  taken = [];
  records = no_records;
  read = refl;
  fed = fed;
  few = omega arith;
  number_is = refl;
  texts = λ more. refl;
  tail = λ more. refl;
  count = omega arith;
}

-- ---- a line that is taken

line-text : (all : List ℕ) (new : Cutter) → CutsLine all new → new.longest ≡ 32768 → text_in (until_feed all) ≡ new.line
line-text all new cut longest =
    let short : length (until_feed all) ≤ 32768 = omega (arith, cut.short) in
    text-short (until_feed all) short ∙ sym cut.line

-- what was read so far, and the line
texts-on : (given given2 kept more : List ℕ) (taken : List (List ℕ)) (new : Cutter)
    → ((rest : List ℕ) → texts_ended (given ++ rest) ≡ taken ++ texts_ended (kept ++ rest))
    → CutsLine (kept ++ given2) new → new.longest ≡ 32768
    → texts_ended ((given ++ given2) ++ more) ≡ (taken ++ new.line ∷ []) ++ texts_ended (new.kept ++ more)
texts-on given given2 kept more taken new texts cut longest =
    ap texts_ended (append_assoc given given2 more)
    ∙ texts (given2 ++ more)
    ∙ ap (λ xs. taken ++ texts_ended xs) (sym (append_assoc kept given2 more))
    ∙ ap (λ ts. taken ++ ts) (texts-more (kept ++ given2) new.kept more cut.rest)
    ∙ ap (λ text. taken ++ (text ∷ texts_ended (new.kept ++ more))) (line-text (kept ++ given2) new cut longest)
    ∙ sym (append_assoc taken (new.line ∷ []) (texts_ended (new.kept ++ more)))

tail-on : (given given2 kept kept' more : List ℕ)
    → ((rest : List ℕ) → tail_of (given ++ rest) ≡ tail_of (kept ++ rest))
    → from_feed (kept ++ given2) ≡ 10 ∷ kept'
    → tail_of ((given ++ given2) ++ more) ≡ tail_of (kept' ++ more)
tail-on given given2 kept kept' more tail cut =
    ap tail_of (append_assoc given given2 more)
    ∙ tail (given2 ++ more)
    ∙ ap tail_of (sym (append_assoc kept given2 more))
    ∙ tail-more (kept ++ given2) kept' more cut

line-taken : (first now new : Input) (old next : Cutter) (c c' : CheckerState) (number : ℕ) (fault : Type 0)
    (h : HasTaken first now old.kept c number) (came : CameNext old now.left new.left fault cuts.Line next)
    → CutsLine (old.kept ++ came.given) next → next.longest ≡ 32768 → now.faults ≤ new.faults
    → Takes h.records next.line c' → HasTaken first new next.kept c' (number + 1)
line-taken first now new old next c c' number fault h came cut longest count takes =
    let few = takes.taken.few in
    let more = one-more h.records takes.one takes.taken.place in
    let is = h.number_is in
    let rose = h.count in
    record {
      given = h.given ++ came.given;
      left_is = gave-on h.given came.given first.left now.left new.left h.left_is came.left_is;
      taken = h.taken ++ next.line ∷ [];
      records = with_record takes.one h.records;
      read = reads-more no_records h.records h.taken next.line takes.one h.read takes.taken;
      fed = takes.fed;
      few = omega arith;
      number_is = omega arith;
      texts = λ more. texts-on h.given came.given old.kept more h.taken next h.texts cut longest;
      tail = λ more. tail-on h.given came.given old.kept next.kept more h.tail cut.rest;
      count = omega arith;
    }

goes-by : (first now new : Input) (old next : Cutter) (c c' : CheckerState) (number : ℕ) (fault : Type 0)
    (h : HasTaken first now old.kept c number) (came : CameNext old now.left new.left fault cuts.Line next)
    → Cuts (old.kept ++ came.given) new.left fault cuts.Line next → next.longest ≡ 32768 → now.faults ≤ new.faults
    → next.stand ≡ stands.Open → Takes h.records next.line c' → HasTaken first new next.kept c' (number + 1)
goes-by first now new old next c c' number fault h came (inl cut) longest count open_ takes =
    line-taken first now new old next c c' number fault h came cut longest count takes
goes-by first now new old next c c' number fault h came (inr (inl cut)) longest count open_ takes =
    let e = cut.0.stand in cc
goes-by first now new old next c c' number fault h came (inr (inr bad)) longest count open_ takes =
    let e = bad.turn in cc

pub goes-on : (first now new : Input) (old next : Cutter) (c c' : CheckerState) (number : ℕ) (fault : Type 0)
    (h : HasTaken first now old.kept c number) (came : CameNext old now.left new.left fault cuts.Line next)
    → next.longest ≡ 32768 → now.faults ≤ new.faults
    → next.stand ≡ stands.Open → Takes h.records next.line c' → HasTaken first new next.kept c' (number + 1)
goes-on first now new old next c c' number fault h came longest count open_ takes =
    goes-by first now new old next c c' number fault h came came.cuts longest count open_ takes

-- ---- the last line

-- what was read so far, where no whole line follows
texts-so : (given given2 kept : List ℕ) (taken : List (List ℕ))
    → ((rest : List ℕ) → texts_ended (given ++ rest) ≡ taken ++ texts_ended (kept ++ rest))
    → from_feed (kept ++ given2) ≡ [] → texts_ended (given ++ given2) ≡ taken
texts-so given given2 kept taken texts none =
    texts given2 ∙ ap (λ ts. taken ++ ts) (texts-none (kept ++ given2) none) ∙ append-nil taken

tail-so : (given given2 kept : List ℕ) → ((rest : List ℕ) → tail_of (given ++ rest) ≡ tail_of (kept ++ rest))
    → from_feed (kept ++ given2) ≡ [] → tail_of (given ++ given2) ≡ kept ++ given2
tail-so given given2 kept tail none = tail given2 ∙ tail-none (kept ++ given2) none

all-so : (given given2 kept : List ℕ) (taken : List (List ℕ))
    → ((rest : List ℕ) → texts_ended (given ++ rest) ≡ taken ++ texts_ended (kept ++ rest))
    → ((rest : List ℕ) → tail_of (given ++ rest) ≡ tail_of (kept ++ rest))
    → from_feed (kept ++ given2) ≡ [] → all_texts (given ++ given2) ≡ taken ++ last_text (kept ++ given2)
all-so given given2 kept taken texts tail none =
    ap (λ ts. ts ++ last_text (tail_of (given ++ given2))) (texts-so given given2 kept taken texts none)
    ∙ ap (λ t. taken ++ last_text t) (tail-so given given2 kept tail none)

all-last : (given given2 kept : List ℕ) (taken : List (List ℕ)) (next : Cutter)
    → ((rest : List ℕ) → texts_ended (given ++ rest) ≡ taken ++ texts_ended (kept ++ rest))
    → ((rest : List ℕ) → tail_of (given ++ rest) ≡ tail_of (kept ++ rest))
    → CutsLast (kept ++ given2) next → all_texts (given ++ given2) ≡ taken ++ next.line ∷ []
all-last given given2 kept taken next texts tail cut =
    all-so given given2 kept taken texts tail cut.whole
    ∙ ap (λ ts. taken ++ ts) (last-some (kept ++ given2) cut.some)
    ∙ ap (λ text. taken ++ text ∷ []) (sym cut.line)

last-by : (first now new : Input) (old next : Cutter) (c c' : CheckerState) (number : ℕ) (fault : Type 0)
    (h : HasTaken first now old.kept c number) (came : CameNext old now.left new.left fault cuts.Line next)
    → Cuts (old.kept ++ came.given) new.left fault cuts.Line next → (next.stand ≡ stands.Open → ⊥)
    → Takes h.records next.line c' → HasTakenAll first new c'
last-by first now new old next c c' number fault h came (inl cut) closed takes = absurd (closed cut.stand)
last-by first now new old next c c' number fault h came (inr (inl cut)) closed takes = record {
  given = h.given ++ came.given;
  left_is = gave-on h.given came.given first.left now.left new.left h.left_is came.left_is;
  end = cut.1;
  records = with_record takes.one h.records;
  read = rw (all-last h.given came.given old.kept h.taken next h.texts h.tail cut.0)
      (reads-more no_records h.records h.taken next.line takes.one h.read takes.taken);
  fed = takes.fed;
}
last-by first now new old next c c' number fault h came (inr (inr bad)) closed takes = let e = bad.turn in cc

pub goes-last : (first now new : Input) (old next : Cutter) (c c' : CheckerState) (number : ℕ) (fault : Type 0)
    (h : HasTaken first now old.kept c number) (came : CameNext old now.left new.left fault cuts.Line next)
    → (next.stand ≡ stands.Open → ⊥) → Takes h.records next.line c' → HasTakenAll first new c'
goes-last first now new old next c c' number fault h came closed takes =
    last-by first now new old next c c' number fault h came came.cuts closed takes

-- nothing is left
end-by : (first now new : Input) (old next : Cutter) (c : CheckerState) (number : ℕ) (fault : Type 0)
    (h : HasTaken first now old.kept c number) (came : CameNext old now.left new.left fault cuts.End next)
    → Cuts (old.kept ++ came.given) new.left fault cuts.End next → HasTakenAll first new c
end-by first now new old next c number fault h came (inl bad) = absurd bad
end-by first now new old next c number fault h came (inr (inl cut)) =
    let none : from_feed (old.kept ++ came.given) ≡ [] = rw cut.0.nothing refl in
    let is : all_texts (h.given ++ came.given) ≡ h.taken =
    all-so h.given came.given old.kept h.taken h.texts h.tail none
    ∙ ap (λ xs. h.taken ++ last_text xs) cut.0.nothing ∙ append-nil h.taken in
    record {
      given = h.given ++ came.given;
      left_is = gave-on h.given came.given first.left now.left new.left h.left_is came.left_is;
      end = cut.1;
      records = h.records;
      read = rw is h.read;
      fed = h.fed;
    }
end-by first now new old next c number fault h came (inr (inr bad)) = let e = bad.turn in cc

pub nothing-left : (first now new : Input) (old next : Cutter) (c : CheckerState) (number : ℕ) (fault : Type 0)
    (h : HasTaken first now old.kept c number) (came : CameNext old now.left new.left fault cuts.End next)
    → HasTakenAll first new c
nothing-left first now new old next c number fault h came =
    end-by first now new old next c number fault h came came.cuts

-- ---- a line that is refused

refused-by : (first now new : Input) (old next : Cutter) (c : CheckerState) (number : ℕ) (fault : Type 0)
    (at : ℕ) (why : CheckWhy) (h : HasTaken first now old.kept c number)
    (came : CameNext old now.left new.left fault cuts.Line next)
    → Cuts (old.kept ++ came.given) new.left fault cuts.Line next → next.longest ≡ 32768
    → IsRefusedAt h.records next.line at why → Judges first new (verdicts.Unsound at why)
refused-by first now new old next c number fault at why h came (inl cut) longest refused =
    let is : texts_ended (h.given ++ came.given) ≡ h.taken ++ next.line ∷ texts_ended next.kept =
    h.texts came.given
    ∙ ap (λ ts. h.taken ++ ts) (texts-line (old.kept ++ came.given) next.kept cut.rest)
    ∙ ap (λ text. h.taken ++ text ∷ texts_ended next.kept)
    (line-text (old.kept ++ came.given) next cut longest) in
    record {
      given = h.given ++ came.given;
      left_is = gave-on h.given came.given first.left now.left new.left h.left_is came.left_is;
      whole = false;
      end = λ e. cc;
      says = inl (record {
        taken = h.taken;
        text = next.line;
        behind = texts_ended next.kept;
        texts_are = is;
        records = h.records;
        read = h.read;
        refused = refused;
      });
    }
refused-by first now new old next c number fault at why h came (inr (inl cut)) longest refused = record {
  given = h.given ++ came.given;
  left_is = gave-on h.given came.given first.left now.left new.left h.left_is came.left_is;
  whole = true;
  end = λ e. cut.1;
  says = inl (record {
    taken = h.taken;
    text = next.line;
    behind = [];
    texts_are = all-last h.given came.given old.kept h.taken next h.texts h.tail cut.0;
    records = h.records;
    read = h.read;
    refused = refused;
  });
}
refused-by first now new old next c number fault at why h came (inr (inr bad)) longest refused =
    let e = bad.turn in cc

-- the checker's fault is the verdict
pub stops : (first now new : Input) (old next : Cutter) (c c' : CheckerState) (number : ℕ) (fault : Type 0)
    (found : CheckFault) (text : List ℕ) (h : HasTaken first now old.kept c number)
    (came : CameNext old now.left new.left fault cuts.Line next) → next.longest ≡ 32768 → text ≡ next.line
    → Feeds h.records text (Err found) c' → Judges first new (verdict_by found)
stops first now new old next c c' number fault (Refused at why) text h came longest is feeds =
    refused-by first now new old next c number fault at why h came came.cuts longest
    (subst (λ (t : List ℕ). IsRefusedAt h.records t at why) is feeds.0)
stops first now new old next c c' number fault NoMemory text h came longest is feeds = record {
  given = h.given ++ came.given;
  left_is = gave-on h.given came.given first.left now.left new.left h.left_is came.left_is;
  whole = false;
  end = λ e. cc;
  says = tt;
}

-- ---- a line that is too long

-- no record has such a text, or there are enough
abbrev IsBad : GroupedRecords → List ℕ → Verdict → Type 0
IsBad r raw (verdicts.Unsound at why) = IsBadText r raw at why
IsBad r raw verdict = ⊥

is-bad : (r : GroupedRecords) (raw : List ℕ) (number : ℕ) → number ≡ record_count r + 1
    → ((100000000 < number) ⊎ (32768 < length raw)) → IsBad r raw (long_verdict number)
is-bad r raw number is bad =
    elim (nat_lt 100000000 number) as
    (λ b. nat_lt 100000000 number ≡ b
    → IsBad r raw (if b then verdicts.Unsound number words.Records else verdicts.Unsound number words.Text)) [
      | true ↦ λ e. record { at_is = is; none = grind (arith, nat_tests) }
      | false ↦ λ e.
          let few : number ≤ 100000000 = grind (arith, nat_tests) in
          let long : 32768 < length raw = elim bad [ inl many ↦ absurd (omega arith) | inr long ↦ long ] in
          record { at_is = is; none = (omega arith, λ one has. omega (arith, has.short)) }
    ] refl

-- the line is ended, or has begun
whole-bad : (first now new : Input) (kept given2 rest : List ℕ) (c : CheckerState) (number : ℕ) (verdict : Verdict)
    (h : HasTaken first now kept c number) → now.left ≡ before given2 new.left
    → from_feed (kept ++ given2) ≡ 10 ∷ rest → 32768 < length (until_feed (kept ++ given2))
    → IsBad h.records (until_feed (kept ++ given2)) verdict → Judges first new verdict
whole-bad first now new kept given2 rest c number (verdicts.Unsound at why) h gave cut long bad =
    let is : texts_ended (h.given ++ given2) ≡ h.taken ++ until_feed (kept ++ given2) ∷ texts_ended rest =
    h.texts given2
    ∙ ap (λ ts. h.taken ++ ts) (texts-line (kept ++ given2) rest cut)
    ∙ ap (λ text. h.taken ++ text ∷ texts_ended rest) (text-long (until_feed (kept ++ given2)) long) in
    record {
      given = h.given ++ given2;
      left_is = gave-on h.given given2 first.left now.left new.left h.left_is gave;
      whole = false;
      end = λ e. cc;
      says = inl (record {
        taken = h.taken;
        text = until_feed (kept ++ given2);
        behind = texts_ended rest;
        texts_are = is;
        records = h.records;
        read = h.read;
        refused = inl bad;
      });
    }
whole-bad first now new kept given2 rest c number verdict h gave cut long bad = absurd bad

begun-bad : (first now new : Input) (kept given2 : List ℕ) (c : CheckerState) (number : ℕ) (verdict : Verdict)
    (h : HasTaken first now kept c number) → now.left ≡ before given2 new.left → from_feed (kept ++ given2) ≡ []
    → IsHopeless h.records (kept ++ given2) → IsBad h.records (kept ++ given2) verdict → Judges first new verdict
begun-bad first now new kept given2 c number (verdicts.Unsound at why) h gave none hopeless bad =
    let texts = texts-so h.given given2 kept h.taken h.texts none in
    let tail = tail-so h.given given2 kept h.tail none in
    record {
      given = h.given ++ given2;
      left_is = gave-on h.given given2 first.left now.left new.left h.left_is gave;
      whole = false;
      end = λ e. cc;
      says = inr (record {
        records = h.records;
        read = rw texts h.read;
        hopeless = rw tail hopeless;
        refused = rw tail bad;
      });
    }
begun-bad first now new kept given2 c number verdict h gave none hopeless bad = absurd bad

long-cut : (all : List ℕ) (left' : Option (List ℕ)) (fault : Type 0) (new : Cutter)
    → Cuts all left' fault cuts.Long new → CutsLong all new
long-cut all left' fault new (inl cut) = cut
long-cut all left' fault new (inr (inl bad)) = absurd bad.0
long-cut all left' fault new (inr (inr bad)) = let e = bad.turn in cc

pub too-long : (first now new : Input) (old next : Cutter) (c : CheckerState) (number : ℕ) (fault : Type 0)
    (h : HasTaken first now old.kept c number) (came : CameNext old now.left new.left fault cuts.Long next)
    → next.longest ≡ 32768 → Judges first new (long_verdict number)
too-long first now new old next c number fault h came longest =
    let all : List ℕ = old.kept ++ came.given in
    let cut = long-cut all new.left fault next came.cuts in
    let long : 32768 < length (until_feed all) = omega (arith, cut.long) in
    let bad = is-bad h.records (until_feed all) number h.number_is (inr long) in
    elim (feed-cases all) [
      | inl none ↦
          let is : until_feed all ≡ all = until_feed_whole all none in
          begun-bad first now new old.kept came.given c number (long_verdict number) h came.left_is none
          (inl (rw is at long)) (rw is at bad)
      | inr p ↦
          whole-bad first now new old.kept came.given p.0 c number (long_verdict number) h came.left_is p.1 long bad
    ]

-- ---- a read that failed

fault-cut : (all : List ℕ) (left' : Option (List ℕ)) (fault : Type 0) (new : Cutter)
    → Cuts all left' fault cuts.ReadFault new → CutsFault all fault cuts.ReadFault new
fault-cut all left' fault new (inl bad) = absurd bad
fault-cut all left' fault new (inr (inl bad)) = absurd bad.0
fault-cut all left' fault new (inr (inr cut)) = cut

pub too-many : (first now new : Input) (old next : Cutter) (c : CheckerState) (number : ℕ) (fault : Type 0)
    (h : HasTaken first now old.kept c number) (came : CameNext old now.left new.left fault cuts.ReadFault next)
    → 100000000 < number → 0 < length next.kept → Judges first new (long_verdict number)
too-many first now new old next c number fault h came many some =
    let all : List ℕ = old.kept ++ came.given in
    let cut = fault-cut all new.left fault next came.cuts in
    let is = h.number_is in
    let begun : 0 < length all = rw (← cut.kept) some in
    begun-bad first now new old.kept came.given c number (long_verdict number) h came.left_is cut.part
    (inr (begun, omega arith)) (is-bad h.records all number h.number_is (inl many))

pub faulty : (first now new : Input) (old next : Cutter) (c : CheckerState) (number : ℕ)
    (h : HasTaken first now old.kept c number)
    (came : CameNext old now.left new.left (HasRisen now.faults new.faults) cuts.ReadFault next)
    → next.longest ≡ 32768 → (0 < length next.kept → number ≤ 100000000) → Judges first new verdicts.ReadFault
faulty first now new old next c number h came longest few =
    let all : List ℕ = old.kept ++ came.given in
    let cut = fault-cut all new.left _ next came.cuts in
    let short : length all ≤ 32768 = omega (arith, cut.short) in
    let texts = texts-so h.given came.given old.kept h.taken h.texts cut.part in
    let tail = tail-so h.given came.given old.kept h.tail cut.part in
    let is = h.number_is in
    let fits : 0 < length all → number ≤ 100000000 = rw (← cut.kept) few in
    let hopeful : IsHopeless h.records all → ⊥ =
    λ hopeless. elim hopeless [
      | inl long ↦ omega arith
      | inr many ↦ let fits = fits many.0 in omega (arith, many.1)
    ] in
    record {
      given = h.given ++ came.given;
      left_is = gave-on h.given came.given first.left now.left new.left h.left_is came.left_is;
      whole = false;
      end = λ e. cc;
      says = (
        record { records = h.records; read = rw texts h.read; hopeful = rw tail hopeful },
        risen_from first.faults now.faults new.faults h.count cut.cause,
      );
    }
