-- What a turn leaves, by what was cut and what the line did.
use Rattle.std.proofs.Common.{◌≡◌, ◌<◌, ◌≤◌, ◌+◌, ◌∙◌, Bool, true, false, ℕ, List, [], ◌∷◌, ◌++◌, length, refl, ap, sym}
use Rattle.std.proofs.Common.{arith, inl, inr, append_assoc, subst}
use Rattle.std.specs.Prelude.{Option, Some, flat_map}
use Rattle.std.proofs.lemmas.Grind.{flat_map-append}
use Rattle.l2_io.specs.Known.{before, IsAtEnd}
use Rattle.l2_io.specs.Feeds.{until_feed, from_feed}
use Rattle.l2_io.specs.Cutting.{Cutter, CutsLine, CutsLast, CutsLong, CutsNothing, CutsFault, Cuts, AdvancesAt}
use Rattle.l2_io.specs.Cutting.{Advances}
use Rattle.l2_io.specs.declared.lines.Stand.{Stand}
use Rattle.l2_io.specs.declared.lines.Stand.TheVariants as stands
use Rattle.l2_io.specs.declared.lines.Turn.{Turn}
use Rattle.l2_io.specs.declared.lines.Turn.TheVariants as cuts
use Rattle.air_text.specs.declared.fault.LineRefusal.TheVariants.{Long}
use Rattle.line_player.specs.Streams.{WritesFront}
use Rattle.line_player.specs.declared.reason.Reason.{Reason}
use Rattle.line_player.specs.declared.reason.Reason.TheVariants as reasons
use Rattle.line_player.specs.declared.ending.Ending.TheVariants as endings
use Rattle.line_player.specs.Journal.{Player, Outcome, Goes, Ends, Refuses, Played, onto, finished, refused, waiting}
use Rattle.line_player.specs.Journal.{follow, journal_from}
use Rattle.line_player.specs.Plays.{HasGone, HasEnded, HasPart, HasPlayed, GoesOn, IsOver}
use Rattle.line_player.proofs.Parts.{journal-line, journal-line-more, journal-last, journal-end, journal-waits}
use Rattle.line_player.proofs.Parts.{journal-long, journal-many, line-runs, last-runs}
use Rattle.line_player.proofs.Nothing.{after_none}

-- an open cutter read on
pub advances-open : (old : Cutter) (left left' : Option (List ℕ)) (fault : Type 0) (turn : Turn) (new : Cutter)
    → old.stand ≡ stands.Open → Advances old left left' fault turn new
    → (given : List ℕ) × (left ≡ before given left') × Cuts (old.kept ++ given) left' fault turn new
advances-open old left left' fault turn new is adv =
    subst (λ (stand : Stand). AdvancesAt stand old left left' fault turn new) is adv

-- the journal of octets whose first line, or last, is run
pub record RunsAs {S E R : Type 0} (m : Player S E R) (journal : Bool → List ℕ
    → Played E R) (given : List ℕ) (left' : Option (List ℕ)) (number : ℕ) (line : Outcome S E R) : Type 0 where
  pub whole : Bool
  pub end : whole ≡ true → IsAtEnd left'
  pub next : S → Played E R
  pub is : journal whole given ≡ follow m number line next

pub runs-line : {S E R : Type 0} (m : Player S E R) (s : S) (number : ℕ) (kept given : List ℕ) (left' : Option (List ℕ))
    (new : Cutter)
    → CutsLine (kept ++ given) new → number ≤ 1000000 → new.longest ≡ 20000
    → RunsAs m (λ whole given. journal_from m whole s number (kept ++ given)) given left' number
    (m.line s number new.line)
runs-line m s number kept given left' new cut few longest =
    let short : length (until_feed (kept ++ given)) ≤ 20000 = omega (arith, cut.short) in
    record {
      whole = false;
      end = λ e. cc;
      next = λ t. journal_from m false t (number + 1) new.kept;
      is = journal-line m false s number (kept ++ given) new.kept cut.rest
          ∙ line-runs m s number (until_feed (kept ++ given)) _ short few
          ∙ ap (λ text. follow m number (m.line s number text) (λ t. journal_from m false t (number + 1) new.kept))
          (sym cut.line);
    }

pub runs-last : {S E R : Type 0} (m : Player S E R) (s : S) (number : ℕ) (kept given : List ℕ) (left' : Option (List ℕ))
    (new : Cutter)
    → CutsLast (kept ++ given) new → IsAtEnd left' → number ≤ 1000000 → new.longest ≡ 20000
    → RunsAs m (λ whole given. journal_from m whole s number (kept ++ given)) given left' number
    (m.line s number new.line)
runs-last m s number kept given left' new cut end few longest =
    let short : length (kept ++ given) ≤ 20000 = omega (arith, cut.short) in
    record {
      whole = true;
      end = λ e. end;
      next = finished m;
      is = journal-last m s number (kept ++ given) cut.whole cut.some
          ∙ last-runs m s number (kept ++ given) short few
          ∙ ap (λ text. follow m number (m.line s number text) (finished m)) (sym cut.line);
    }

pub runs-cut : {S E R : Type 0} (m : Player S E R) (s : S) (number : ℕ) (kept given : List ℕ) (left' : Option (List ℕ))
    (fault : Type 0) (new : Cutter)
    → Cuts (kept ++ given) left' fault cuts.Line new → number ≤ 1000000 → new.longest ≡ 20000
    → RunsAs m (λ whole given. journal_from m whole s number (kept ++ given)) given left' number
    (m.line s number new.line)
runs-cut m s number kept given left' fault new (inl cut) few longest =
    runs-line m s number kept given left' new cut few longest
runs-cut m s number kept given left' fault new (inr (inl cut)) few longest =
    runs-last m s number kept given left' new cut.0 cut.1 few longest
runs-cut m s number kept given left' fault new (inr (inr bad)) few longest = let e = bad.turn in cc

-- the run ended at a line
pub over-by : {S E R : Type 0} {text_of : E → List ℕ} (m : Player S E R) (journal : Bool → List ℕ
    → Played E R) (given : List ℕ) (left left' written written' : Option (List ℕ)) (run' : Option S) (number : ℕ)
    (line : Outcome S E R)
    → left ≡ before given left' → RunsAs m journal given left' number line → HasEnded text_of line run' written written'
    → IsOver text_of m journal left left' written written' run'
over-by m journal given left left' written written' run' number (Goes t part) gave runs has = absurd has
over-by m journal given left left' written written' run' number (Ends t part) gave runs has =
    record {
      given = given;
      left_is = gave;
      whole = runs.whole;
      end = runs.end;
      part = part;
      written_is = has.1;
      state = t;
      run_is = has.0;
      rest = runs.is;
    }
over-by m journal given left left' written written' run' number (Refuses reason) gave runs has = absurd has

-- a line was refused
pub refused-by : {S E R : Type 0} {text_of : E → List ℕ} (m : Player S E R) (journal : Bool → List ℕ
    → Played E R) (given : List ℕ) (left left' written written' : Option (List ℕ)) (in_fault out_fault : Type 0)
    (number : ℕ) (line : Outcome S E R) (reason : Reason R)
    → left ≡ before given left' → RunsAs m journal given left' number line → line ≡ Refuses reason → written' ≡ written
    → HasPlayed text_of journal left left' written written' in_fault out_fault (endings.Refused number reason)
refused-by m journal given left left' written written' in_fault out_fault number line reason gave runs refuses same =
    let is : journal runs.whole given ≡ refused number reason =
    runs.is ∙ ap (λ o. follow m number o runs.next) refuses in
    record {
      given = given;
      left_is = gave;
      whole = runs.whole;
      end = runs.end;
      plays = rw is (refl, same ∙ after_none written);
    }

pub front-longer : (a b : List ℕ) (written written' : Option (List ℕ)) → WritesFront a written written'
    → WritesFront (a ++ b) written written'
front-longer a b written written' w =
    record {
      front = w.front;
      written_is = w.written_is;
      is_front = record {
        rest = w.is_front.rest ++ b;
        joined = ap (λ t. t ++ b) w.is_front.joined ∙ append_assoc w.front w.is_front.rest b;
      };
    }

pub front-onto : {E R : Type 0} (text_of : E → List ℕ) (part : List E) (later : Played E R)
    (written written' : Option (List ℕ))
    → WritesFront (flat_map text_of part) written written'
    → WritesFront (flat_map text_of (onto part later).journal) written written'
front-onto text_of part later written written' w =
    rw (flat_map-append _ part later.journal)
    (front-longer (flat_map text_of part) (flat_map text_of later.journal) written written' w)

-- a part of what a line writes was written
pub part-by : {S E R : Type 0} (text_of : E → List ℕ) (m : Player S E R) (played : Played E R) (number : ℕ)
    (line : Outcome S E R) (next : S
    → Played E R) (written written' : Option (List ℕ))
    → played ≡ follow m number line next → HasPart text_of line written written'
    → WritesFront (flat_map text_of played.journal) written written'
part-by text_of m played number (Goes t part) next written written' is has =
    rw is (front-onto text_of part (next t) written written' has)
part-by text_of m played number (Ends t part) next written written' is has =
    rw is (front-onto text_of part (finished m t) written written' has)
part-by text_of m played number (Refuses reason) next written written' is has =
    rw is (record {
      front = [];
      is_front = record { rest = []; joined = refl };
      written_is = has ∙ after_none written;
    })

-- a line that goes on
pub goes-by : {S E R : Type 0} {text_of : E → List ℕ} (m : Player S E R) (s : S) (number : ℕ) (kept given : List ℕ)
    (left left' written written' : Option (List ℕ)) (run' : Option S) (new : Cutter) (line : Outcome S E R)
    → m.line s number new.line ≡ line → left ≡ before given left' → CutsLine (kept ++ given) new → number ≤ 1000000
    → new.longest ≡ 20000
    → HasGone text_of line run' written written'
    → GoesOn text_of m (λ whole given. journal_from m whole s number (kept ++ given)) left left' written written' run'
    (number + 1) new.kept
goes-by m s number kept given left left' written written' run' new (Goes t part) e gave cut few longest has =
    let short : length (until_feed (kept ++ given)) ≤ 20000 = omega (arith, cut.short) in
    record {
      given = given;
      left_is = gave;
      part = part;
      written_is = has.1;
      state = t;
      run_is = has.0;
      rest = λ whole more.
          ap (journal_from m whole s number) (sym (append_assoc kept given more))
          ∙ journal-line-more m whole s number (kept ++ given) new.kept more cut.rest
          ∙ line-runs m s number (until_feed (kept ++ given)) _ short few
          ∙ ap (λ o. follow m number o (λ t. journal_from m whole t (number + 1) (new.kept ++ more)))
          (ap (m.line s number) (sym cut.line) ∙ e);
    }
goes-by m s number kept given left left' written written' run' new (Ends t part) e gave cut few longest has = absurd has
goes-by m s number kept given left left' written written' run' new (Refuses reason) e gave cut few longest has =
    absurd has

-- the last line was run
pub last-by : {S E R : Type 0} {text_of : E → List ℕ} (m : Player S E R) (s : S) (number : ℕ) (kept given : List ℕ)
    (left left' written written' : Option (List ℕ)) (run' : Option S) (new : Cutter) (line : Outcome S E R)
    → m.line s number new.line ≡ line → left ≡ before given left' → CutsLast (kept ++ given) new → IsAtEnd left'
    → number ≤ 1000000 → new.longest ≡ 20000
    → HasGone text_of line run' written written'
    → IsOver text_of m (λ whole given. journal_from m whole s number (kept ++ given)) left left' written written' run'
last-by m s number kept given left left' written written' run' new (Goes t part) e gave cut end few longest has =
    let short : length (kept ++ given) ≤ 20000 = omega (arith, cut.short) in
    record {
      given = given;
      left_is = gave;
      whole = true;
      end = λ e. end;
      part = part;
      written_is = has.1;
      state = t;
      run_is = has.0;
      rest = journal-last m s number (kept ++ given) cut.whole cut.some
          ∙ last-runs m s number (kept ++ given) short few
          ∙ ap (λ o. follow m number o (finished m)) (ap (m.line s number) (sym cut.line) ∙ e);
    }
last-by m s number kept given left left' written written' run' new (Ends t part) e gave cut end few longest has =
    absurd has
last-by m s number kept given left left' written written' run' new (Refuses reason) e gave cut end few longest has =
    absurd has

-- what came next is what was read
pub record CameNext (old : Cutter) (left left' : Option (List ℕ)) (fault : Type 0) (turn : Turn) (new : Cutter) : Type
    0 where
  pub given : List ℕ
  pub left_is : left ≡ before given left'
  pub cuts : Cuts (old.kept ++ given) left' fault turn new

pub came-next : (old : Cutter) (left left' : Option (List ℕ)) (fault : Type 0) (turn : Turn) (new : Cutter)
    → old.stand ≡ stands.Open → Advances old left left' fault turn new → CameNext old left left' fault turn new
came-next old left left' fault turn new is adv =
    let next = advances-open old left left' fault turn new is adv in
    record { given = next.0; left_is = next.1; cuts = next.2 }

-- refused before anything was written
pub refused-at : {E R : Type 0} {text_of : E → List ℕ} (journal : Bool → List ℕ → Played E R) (given : List ℕ)
    (left left' written : Option (List ℕ))
    (in_fault out_fault : Type 0) (number : ℕ) (reason : Reason R)
    → left ≡ before given left' → journal false given ≡ refused number reason
    → HasPlayed text_of journal left left' written written in_fault out_fault (endings.Refused number reason)
refused-at journal given left left' written in_fault out_fault number reason gave is =
    record { given = given; left_is = gave; whole = false; end = λ e. cc; plays = rw is (refl, after_none written) }

feed-some : (xs ys : List ℕ) → from_feed xs ≡ 10 ∷ ys → 0 < length xs
feed-some [] ys e = absurd (cc)
feed-some (x ∷ xs) ys e = omega arith

until-some : (xs : List ℕ) → 20000 < length (until_feed xs) → 0 < length xs
until-some [] long = absurd (omega arith)
until-some (x ∷ xs) long = omega arith

line-some : (all : List ℕ) (left' : Option (List ℕ)) (fault : Type 0) (new : Cutter)
    → Cuts all left' fault cuts.Line new → 0 < length all
line-some all left' fault new (inl cut) = feed-some all new.kept cut.rest
line-some all left' fault new (inr (inl cut)) = cut.0.some
line-some all left' fault new (inr (inr bad)) = let e = bad.turn in cc

cut-long : (all : List ℕ) (left' : Option (List ℕ)) (fault : Type 0) (new : Cutter)
    → Cuts all left' fault cuts.Long new → CutsLong all new
cut-long all left' fault new (inl cut) = cut
cut-long all left' fault new (inr (inl bad)) = absurd bad.0
cut-long all left' fault new (inr (inr bad)) = let e = bad.turn in cc

cut-fault : (all : List ℕ) (left' : Option (List ℕ)) (fault : Type 0) (new : Cutter)
    → Cuts all left' fault cuts.ReadFault new → CutsFault all fault cuts.ReadFault new
cut-fault all left' fault new (inl bad) = absurd bad
cut-fault all left' fault new (inr (inl bad)) = absurd bad.0
cut-fault all left' fault new (inr (inr cut)) = cut

cut-end : (all : List ℕ) (left' : Option (List ℕ)) (fault : Type 0) (new : Cutter) → Cuts all left' fault cuts.End new
    → CutsNothing all new × IsAtEnd left'
cut-end all left' fault new (inl bad) = absurd bad
cut-end all left' fault new (inr (inl cut)) = cut
cut-end all left' fault new (inr (inr bad)) = let e = bad.turn in cc

-- the journal of what is kept and what comes
abbrev pub onwards : {S E R : Type 0} (m : Player S E R) → S → ℕ → List ℕ → Bool → List ℕ → Played E R
onwards m s number kept whole given = journal_from m whole s number (kept ++ given)

pub too-many : {S E R : Type 0} {text_of : E → List ℕ} (m : Player S E R) (s : S) (number : ℕ) (old new : Cutter)
    (left left' written : Option (List ℕ)) (in_fault out_fault : Type 0) (turn : Turn)
    (next : CameNext old left left' in_fault turn new)
    → 1000000 < number → 0 < length (old.kept ++ next.given)
    → HasPlayed text_of (onwards m s number old.kept) left left' written written in_fault out_fault
    (endings.Refused number reasons.Lines)
too-many m s number old new left left' written in_fault out_fault turn next many some =
    refused-at (onwards m s number old.kept) next.given left left' written in_fault out_fault number reasons.Lines
    next.left_is (journal-many m s number (old.kept ++ next.given) some many)

pub many-at-line : {S E R : Type 0} {text_of : E → List ℕ} (m : Player S E R) (s : S) (number : ℕ) (old new : Cutter)
    (left left' written : Option (List ℕ)) (in_fault out_fault : Type 0)
    → CameNext old left left' in_fault cuts.Line new → 1000000 < number
    → HasPlayed text_of (onwards m s number old.kept) left left' written written in_fault out_fault
    (endings.Refused number reasons.Lines)
many-at-line m s number old new left left' written in_fault out_fault next many =
    too-many m s number old new left left' written in_fault out_fault _ next many (line-some _ _ _ _ next.cuts)

pub many-at-long : {S E R : Type 0} {text_of : E → List ℕ} (m : Player S E R) (s : S) (number : ℕ) (old new : Cutter)
    (left left' written : Option (List ℕ)) (in_fault out_fault : Type 0)
    → CameNext old left left' in_fault cuts.Long new → new.longest ≡ 20000 → 1000000 < number
    → HasPlayed text_of (onwards m s number old.kept) left left' written written in_fault out_fault
    (endings.Refused number reasons.Lines)
many-at-long m s number old new left left' written in_fault out_fault next longest many =
    let cut = cut-long _ _ _ _ next.cuts in
    let long : 20000 < length (until_feed (old.kept ++ next.given)) = omega (arith, cut.long) in
    too-many m s number old new left left' written in_fault out_fault _ next many (until-some _ long)

pub too-long : {S E R : Type 0} {text_of : E → List ℕ} (m : Player S E R) (s : S) (number : ℕ) (old new : Cutter)
    (left left' written : Option (List ℕ)) (in_fault out_fault : Type 0)
    → CameNext old left left' in_fault cuts.Long new → new.longest ≡ 20000 → number ≤ 1000000
    → HasPlayed text_of (onwards m s number old.kept) left left' written written in_fault out_fault
    (endings.Refused number (reasons.Line Long))
too-long m s number old new left left' written in_fault out_fault next longest few =
    let cut = cut-long _ _ _ _ next.cuts in
    let long : 20000 < length (until_feed (old.kept ++ next.given)) = omega (arith, cut.long) in
    refused-at (onwards m s number old.kept) next.given left left' written in_fault out_fault number
    (reasons.Line Long) next.left_is (journal-long m s number (old.kept ++ next.given) long few)

pub many-at-fault : {S E R : Type 0} {text_of : E → List ℕ} (m : Player S E R) (s : S) (number : ℕ) (old new : Cutter)
    (left left' written : Option (List ℕ)) (in_fault out_fault : Type 0)
    → CameNext old left left' in_fault cuts.ReadFault new → 1000000 < number → 0 < length new.kept
    → HasPlayed text_of (onwards m s number old.kept) left left' written written in_fault out_fault
    (endings.Refused number reasons.Lines)
many-at-fault m s number old new left left' written in_fault out_fault next many some =
    let cut = cut-fault _ _ _ _ next.cuts in
    too-many m s number old new left left' written in_fault out_fault _ next many (rw (← cut.kept) some)

pub faulty : {S E R : Type 0} {text_of : E → List ℕ} (m : Player S E R) (s : S) (number : ℕ) (old new : Cutter)
    (left left' written : Option (List ℕ)) (in_fault out_fault : Type 0)
    → CameNext old left left' in_fault cuts.ReadFault new → new.longest ≡ 20000
    → (0 < length new.kept → number ≤ 1000000)
    → HasPlayed text_of (onwards m s number old.kept) left left' written written in_fault out_fault endings.ReadFault
faulty m s number old new left left' written in_fault out_fault next longest few =
    let cut = cut-fault _ _ _ _ next.cuts in
    let short : length (old.kept ++ next.given) ≤ 20000 = omega (arith, cut.short) in
    let is : journal_from m false s number (old.kept ++ next.given) ≡ waiting =
    journal-waits m s number (old.kept ++ next.given) cut.part short (rw (← cut.kept) few) in
    record {
      given = next.given;
      left_is = next.left_is;
      whole = false;
      end = λ e. cc;
      plays = rw is (refl, after_none written, cut.cause);
    }

pub nothing-left : {S E R : Type 0} {text_of : E → List ℕ} (m : Player S E R) (s : S) (number : ℕ) (old new : Cutter)
    (left left' written : Option (List ℕ)) (in_fault : Type 0) (run : Option S)
    → CameNext old left left' in_fault cuts.End new → run ≡ Some s
    → IsOver text_of m (onwards m s number old.kept) left left' written written run
nothing-left m s number old new left left' written in_fault run next live =
    let cut = cut-end _ _ _ _ next.cuts in
    record {
      given = next.given;
      left_is = next.left_is;
      whole = true;
      end = λ e. cut.1;
      part = [];
      written_is = after_none written;
      state = s;
      run_is = live;
      rest = rw cut.0.nothing (journal-end m s number);
    }

-- a line was run, with this answer
pub line-over : {S E R : Type 0} {text_of : E → List ℕ} (m : Player S E R) (s : S) (number : ℕ) (old new : Cutter)
    (left left' written written' : Option (List ℕ)) (in_fault : Type 0) (run' : Option S)
    → CameNext old left left' in_fault cuts.Line new → number ≤ 1000000 → new.longest ≡ 20000
    → HasEnded text_of (m.line s number new.line) run' written written'
    → IsOver text_of m (onwards m s number old.kept) left left' written written' run'
line-over m s number old new left left' written written' in_fault run' next few longest has =
    over-by m (onwards m s number old.kept) next.given left left' written written' run' number
    (m.line s number new.line) next.left_is
    (runs-cut m s number old.kept next.given left' in_fault new next.cuts few longest) has

pub line-refused : {S E R : Type 0} {text_of : E → List ℕ} (m : Player S E R) (s : S) (number : ℕ) (old new : Cutter)
    (left left' written written' : Option (List ℕ)) (in_fault out_fault : Type 0) (reason : Reason R)
    → CameNext old left left' in_fault cuts.Line new → number ≤ 1000000 → new.longest ≡ 20000
    → m.line s number new.line ≡ Refuses reason → written' ≡ written
    → HasPlayed text_of (onwards m s number old.kept) left left' written written' in_fault out_fault
    (endings.Refused number reason)
line-refused m s number old new left left' written written' in_fault out_fault reason next few longest is same =
    refused-by m (onwards m s number old.kept) next.given left left' written written' in_fault out_fault number
    (m.line s number new.line) reason next.left_is
    (runs-cut m s number old.kept next.given left' in_fault new next.cuts few longest) is same

pub line-part : {S E R : Type 0} {text_of : E → List ℕ} (m : Player S E R) (s : S) (number : ℕ) (old new : Cutter)
    (left left' written written' : Option (List ℕ)) (in_fault out_fault : Type 0)
    → CameNext old left left' in_fault cuts.Line new → number ≤ 1000000 → new.longest ≡ 20000
    → HasPart text_of (m.line s number new.line) written written'
    → HasPlayed text_of (onwards m s number old.kept) left left' written written' in_fault out_fault endings.NoMemory
line-part m s number old new left left' written written' in_fault out_fault next few longest has =
    let runs = runs-cut m s number old.kept next.given left' in_fault new next.cuts few longest in
    record {
      given = next.given;
      left_is = next.left_is;
      whole = runs.whole;
      end = runs.end;
      plays = part-by _ m _ number (m.line s number new.line) runs.next written written' runs.is has;
    }

pub line-fault : {S E R : Type 0} {text_of : E → List ℕ} (m : Player S E R) (s : S) (number : ℕ) (old new : Cutter)
    (left left' written written' : Option (List ℕ)) (in_fault out_fault : Type 0)
    → CameNext old left left' in_fault cuts.Line new → number ≤ 1000000 → new.longest ≡ 20000
    → HasPart text_of (m.line s number new.line) written written' → out_fault
    → HasPlayed text_of (onwards m s number old.kept) left left' written written' in_fault out_fault endings.WriteFault
line-fault m s number old new left left' written written' in_fault out_fault next few longest has fault =
    let runs = runs-cut m s number old.kept next.given left' in_fault new next.cuts few longest in
    record {
      given = next.given;
      left_is = next.left_is;
      whole = runs.whole;
      end = runs.end;
      plays = (part-by _ m _ number (m.line s number new.line) runs.next written written' runs.is has, fault);
    }

goes-cut : {S E R : Type 0} {text_of : E → List ℕ} (m : Player S E R) (s : S) (number : ℕ) (kept given : List ℕ)
    (left left' written written' : Option (List ℕ)) (in_fault : Type 0) (run' : Option S) (new : Cutter)
    → left ≡ before given left' → Cuts (kept ++ given) left' in_fault cuts.Line new → number ≤ 1000000
    → new.longest ≡ 20000 → new.stand ≡ stands.Open
    → HasGone text_of (m.line s number new.line) run' written written'
    → GoesOn text_of m (onwards m s number kept) left left' written written' run' (number + 1) new.kept
goes-cut m s number kept given left left' written written' in_fault run' new gave (inl cut) few longest is has =
    goes-by m s number kept given left left' written written' run' new (m.line s number new.line) refl gave cut few
    longest has
goes-cut m s number kept given left left' written written' in_fault run' new gave (inr (inl cut)) few longest is has =
    let e = cut.0.stand in cc
goes-cut m s number kept given left left' written written' in_fault run' new gave (inr (inr bad)) few longest is has =
    let e = bad.turn in cc

pub line-goes : {S E R : Type 0} {text_of : E → List ℕ} (m : Player S E R) (s : S) (number : ℕ) (old new : Cutter)
    (left left' written written' : Option (List ℕ)) (in_fault : Type 0) (run' : Option S)
    → CameNext old left left' in_fault cuts.Line new → number ≤ 1000000 → new.longest ≡ 20000
    → new.stand ≡ stands.Open → HasGone text_of (m.line s number new.line) run' written written'
    → GoesOn text_of m (onwards m s number old.kept) left left' written written' run' (number + 1) new.kept
line-goes m s number old new left left' written written' in_fault run' next few longest is has =
    goes-cut m s number old.kept next.given left left' written written' in_fault run' new next.left_is next.cuts few
    longest is has

last-cut : {S E R : Type 0} {text_of : E → List ℕ} (m : Player S E R) (s : S) (number : ℕ) (kept given : List ℕ)
    (left left' written written' : Option (List ℕ)) (in_fault : Type 0) (run' : Option S) (new : Cutter)
    → left ≡ before given left' → Cuts (kept ++ given) left' in_fault cuts.Line new → number ≤ 1000000
    → new.longest ≡ 20000 → (new.stand ≡ stands.Open → ⊥)
    → HasGone text_of (m.line s number new.line) run' written written'
    → IsOver text_of m (onwards m s number kept) left left' written written' run'
last-cut m s number kept given left left' written written' in_fault run' new gave (inl cut) few longest is has =
    absurd (is cut.stand)
last-cut m s number kept given left left' written written' in_fault run' new gave (inr (inl cut)) few longest is has =
    last-by m s number kept given left left' written written' run' new (m.line s number new.line) refl gave cut.0
    cut.1 few longest has
last-cut m s number kept given left left' written written' in_fault run' new gave (inr (inr bad)) few longest is has =
    let e = bad.turn in cc

pub line-last : {S E R : Type 0} {text_of : E → List ℕ} (m : Player S E R) (s : S) (number : ℕ) (old new : Cutter)
    (left left' written written' : Option (List ℕ)) (in_fault : Type 0) (run' : Option S)
    → CameNext old left left' in_fault cuts.Line new → number ≤ 1000000 → new.longest ≡ 20000
    → (new.stand ≡ stands.Open → ⊥) → HasGone text_of (m.line s number new.line) run' written written'
    → IsOver text_of m (onwards m s number old.kept) left left' written written' run'
line-last m s number old new left left' written written' in_fault run' next few longest is has =
    last-cut m s number old.kept next.given left left' written written' in_fault run' new next.left_is next.cuts few
    longest is has
