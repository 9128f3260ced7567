-- The TTIs of a line: the checker finds them right exactly where they are.
use Rattle.std.proofs.Common.{◌≡◌, ℕ, zero, suc, ◌+◌, Bool, true, false, not, ◌||◌}
use Rattle.std.proofs.Common.{List, [], ◌∷◌, ◌++◌, length, refl, ap, sym, subst}
use Rattle.std.proofs.Common.{◌∙◌, arith, append-nil}
use Rattle.std.proofs.lemmas.Bool.{and_parts, and_from}
use Rattle.air_record.specs.declared.line.Line.{Line}
use Rattle.air_record.specs.declared.line.Line.TheVariants as lines
use Rattle.air_record.specs.declared.line.Outcome.{Outcome}
use Rattle.air_record.specs.declared.record.Record.{Record}
use Rattle.air_record.specs.declared.record.Record.TheVariants as records
use Rattle.air_record.specs.Outcomes.{intact}
use Rattle.mac_pdu.specs.declared.item.Direction.{Direction}
use Rattle.mac_pdu.specs.declared.item.Direction.TheVariants.{Down, Up}
use Rattle.promises.specs.Air.{InTurn}
use Rattle.promises.specs.Carried.{AreBuilt, seen}
use Rattle.promises.specs.Records.{is_of_air}
use Rattle.harq.specs.SendHistory.{IsRight as AreResent}
use Rattle.harq.specs.ReceiveHistory.{AreAnsweredRight}
use Rattle.promises.specs.Awards.{AreVisits}
use Rattle.promises.specs.Heard.{deeds_of}
use Rattle.promises.specs.Heard.{Heard, heard, loses, is_miss}
use Rattle.promises.specs.Parts.{Part, Submits, Passes, Rests, part_of_line}
use Rattle.journal_air.specs.declared.granted.Granted.{Granted}
use Rattle.journal_air.specs.declared.granted.Due.{Due}
use Rattle.journal_air.specs.declared.granted.Due.TheVariants.{Nothing, Once, Often}
use Rattle.journal_air.specs.Checking.{Checking, after_tti, granted_often, tti_begun}
use Rattle.journal_air.specs.Checking.{after_records, due_of}
use Rattle.journal_air.specs.Checking.{is_met}
use Rattle.promises.specs.RightAir.{FliesInAnyOrder, FliesInDrain, Ttis, HasItsTtis}
use Rattle.journal_air.proofs.Tellings.{heard_append, AllAir}
use Rattle.journal_air.proofs.Steps.{AllZero, Chunk, front, chunks}
use Rattle.journal_air.proofs.Steps.{is_inside, joined, AllInside, AreInside}
use Rattle.journal_air.proofs.Steps.{tti_step, steps, finish, closed_still, after_still}
use Rattle.journal_air.proofs.Steps.{steps_still, front_air, chunks_air}
use Rattle.journal_air.proofs.Ttis.{Hearings, heard_more, past_of, Knows, Carries, FlownRight, tti_of}
use Rattle.journal_air.proofs.Ttis.{tti_sound, tti_complete, flown_air, carries_less, zero_append, zero_first}
use Rattle.journal_air.proofs.Ttis.{zero_second, down_same, up_same}

-- ---- what is heard, process by process

abbrev pub SameHeard : Hearings → Hearings → Type 0
SameHeard hs more = (d : Direction) (p : ℕ) → hs d p ≡ more d p

pub knows_same : (maximum : ℕ) (a b : Bool) (c : Checking) (hs more : Hearings) → Knows maximum a b c hs
    → SameHeard hs more → Knows maximum a b c more
knows_same maximum a b c hs more k same = record {
  some = k.some;
  is_right = k.is_right;
  rests = k.rests;
  down = down_same maximum c.down (past_of hs Down) (past_of more Down) k.down
      (λ p lt. ap (λ (h : Heard). h.flights) (same Down p));
  up = up_same maximum c.up (past_of hs Up) (past_of more Up) k.up (λ p lt. ap (λ (h : Heard). h.flights) (same Up p));
  down_lost_is = λ p. ap (λ (h : Heard). h.lost) (sym (same Down p)) ∙ k.down_lost_is p;
  up_lost_is = λ p. ap (λ (h : Heard). h.lost) (sym (same Up p)) ∙ k.up_lost_is p;
}

pub carries_same : (maximum : ℕ) (hs more : Hearings) → Carries maximum hs → SameHeard hs more → Carries maximum more
carries_same maximum hs more k same = record {
  down_resent = λ p lt.
      subst (λ (h : Heard). AreResent maximum (deeds_of h.flights)) (same Down p) (k.down_resent p lt);
  down_built = λ p lt. subst (λ (h : Heard). AreBuilt maximum (deeds_of h.flights)) (same Down p) (k.down_built p lt);
  down_answered = λ p lt. subst (λ (h : Heard). AreAnsweredRight (seen h.flights)) (same Down p) (k.down_answered p lt);
  up_resent = λ p lt. subst (λ (h : Heard). AreResent maximum (deeds_of h.flights)) (same Up p) (k.up_resent p lt);
  up_visits = λ p lt. subst (λ (h : Heard). AreVisits maximum h.flights) (same Up p) (k.up_visits p lt);
}

-- ---- the TTIs of a line: what the checker finds right is so

not_begun : (t : ℕ) (c : Checking) → c.due ≡ Nothing → (tti_begun t c.due c).right ≡ true → ⊥
not_begun t c none e =
    let h : (tti_begun t Nothing c).right ≡ true = subst (λ (d : Due). (tti_begun t d c).right
    ≡ true) none e in absurd cc

-- where no TTI is due none stands
none_due : (ks : List Chunk) (c : Checking) → c.due ≡ Nothing → (steps ks c).right ≡ true → ks ≡ []
none_due [] c none e = refl
none_due (k ∷ ks) c none e =
    let s = steps_still ks (tti_step k c) e in
    let inner = after_records k.flown (tti_begun k.number c.due c) in
    absurd (not_begun k.number c none
    (after_still k.flown (tti_begun k.number c.due c) (closed_still inner.running inner s)))

step_is : (k : Chunk) (c : Checking) (d : Due) → c.due ≡ d
    → tti_step k c ≡ after_tti (after_records k.flown (tti_begun k.number d c))
step_is k c d e = ap (λ (x : Due). after_tti (after_records k.flown (tti_begun k.number x c))) e

pub record LineSound (maximum : ℕ) (a b : Bool) (p : Part) (c : Checking) (hs : Hearings) (ks : List Chunk)
    : Type 0 where
  pub ttis_are : HasItsTtis c.next p (joined ks)
  pub zero : AllZero (joined ks)
  pub knows : Knows maximum a b (steps ks c) (heard_more (joined ks) hs)
  pub next_is : (steps ks c).next ≡ c.next + length ks

unmet : (c : Checking) (g : Granted) → c.due ≡ Once g → (finish c).right ≡ true → ⊥
unmet c g due e =
    let h : is_met (Once g) ≡ true =
    subst (λ (d : Due). is_met d ≡ true) due (and_parts c.right (is_met c.due) e).1 in
    absurd cc

empty_sound : (maximum : ℕ) (a b : Bool) (p : Part) (c : Checking) (hs : Hearings) → Knows maximum a b c hs
    → HasItsTtis c.next p [] → LineSound maximum a b p c hs []
empty_sound maximum a b p c hs k h = record { ttis_are = h; zero = tt; knows = k; next_is = omega arith }

once_sound : (maximum : ℕ) (a b : Bool) (up_grant : ℕ) (up : Outcome) (down_grant : ℕ) (down : Outcome) (g : Granted)
    (c : Checking) (hs : Hearings) (ks : List Chunk)
    → g ≡ record { up_grant = up_grant; up = up; down_grant = down_grant; down = down; may_sleep = true }
    → Knows maximum a b c hs → b ≡ is_miss g.up.fate → c.due ≡ Once g → AreInside ks
    → (finish (steps ks c)).right ≡ true → LineSound maximum a b (Passes up_grant up down_grant down) c hs ks
once_sound maximum a b up_grant up down_grant down g c hs [] g_is k lost due inside e = absurd (unmet c g due e)
once_sound maximum a b up_grant up down_grant down g c hs (x ∷ ks) g_is k lost due inside e =
    let is = step_is x c (Once g) due in
    let right = (and_parts (steps ks (tti_step x c)).right (is_met (steps ks (tti_step x c)).due) e).0 in
    let one = subst (λ (y : Checking). y.right ≡ true) is (steps_still ks (tti_step x c) right) in
    let s = tti_sound maximum a b x.number x.flown g Nothing c hs k lost inside.0 one in
    let none = none_due ks (tti_step x c) (ap (λ (y : Checking). y.due) is ∙ s.due_is) right in
    subst (λ (l : List Chunk). LineSound maximum a b (Passes up_grant up down_grant down) c hs (x ∷ l)) (sym none)
    (record {
      ttis_are = record {
        first = records.Tti c.next ∷ [];
        second = x.flown;
        told_are = ap (λ (n : ℕ). records.Tti n ∷ (x.flown ++ [])) s.number_is
            ∙ ap (λ (l : List Record). records.Tti c.next ∷ l) (append-nil x.flown);
        is_first = refl;
        is_second = (
          s.flown_right.asleep,
          subst
              (λ (y : Granted).
              FliesInAnyOrder s.flown_right.asleep c.next y.up_grant y.up y.down_grant y.down x.flown) g_is
              (subst
              (λ (n : ℕ). FliesInAnyOrder s.flown_right.asleep n g.up_grant g.up g.down_grant g.down x.flown)
              s.number_is s.flown_right.flies),
        );
      };
      zero = (tt, zero_append x.flown [] s.zero tt);
      knows = subst (λ (y : Checking). Knows maximum a b y (heard_more (records.Tti x.number ∷ (x.flown ++ [])) hs))
          (sym is)
          (subst
          (λ (l : List Record).
          Knows maximum a b (tti_of x.number x.flown g Nothing c) (heard_more (records.Tti x.number ∷ l) hs))
          (sym (append-nil x.flown)) s.knows);
      next_is = ap (λ (y : Checking). y.next) is ∙ s.next_is;
    })

awake : (asleep : Bool) → (not asleep || false) ≡ true → asleep ≡ false
awake true e = absurd cc
awake false e = refl

abbrev pub Drained : ℕ → ℕ → List Record → Type 0
Drained grant n told = Ttis (FliesInDrain grant n) n told

often_sound : (maximum : ℕ) (a b : Bool) (grant : ℕ) (c : Checking) (hs : Hearings) (ks : List Chunk)
    → Knows maximum a b c hs → b ≡ false → c.due ≡ Often grant → AreInside ks → (steps ks c).right ≡ true
    → InTurn (Drained grant) c.next (length ks) (joined ks) × AllZero (joined ks)
    × Knows maximum a b (steps ks c) (heard_more (joined ks) hs) × ((steps ks c).next ≡ c.next + length ks)
often_sound maximum a b grant c hs [] k lost due inside e = (refl, tt, k, omega arith)
often_sound maximum a b grant c hs (x ∷ ks) k lost due inside e =
    let g = granted_often grant in
    let is = step_is x c (Often grant) due in
    let one = subst (λ (y : Checking). y.right ≡ true) is (steps_still ks (tti_step x c) e) in
    let s = tti_sound maximum a b x.number x.flown g (Often grant) c hs k lost inside.0 one in
    let hs' = heard_more (records.Tti x.number ∷ x.flown) hs in
    let knows : Knows maximum a b (tti_step x c) hs' =
    subst (λ (y : Checking). Knows maximum a b y hs') (sym is) s.knows in
    let next : (tti_step x c).next ≡ c.next + 1 = ap (λ (y : Checking). y.next) is ∙ s.next_is in
    let rest = often_sound maximum a b grant (tti_step x c) hs' ks knows lost
    (ap (λ (y : Checking). y.due) is ∙ s.due_is) inside.1 e in (
      record {
        first = records.Tti x.number ∷ x.flown;
        second = joined ks;
        told_are = refl;
        is_first = record {
          first = records.Tti c.next ∷ [];
          second = x.flown;
          told_are = ap (λ (n : ℕ). records.Tti n ∷ x.flown) s.number_is;
          is_first = refl;
          is_second = subst (λ (n : ℕ). FliesInDrain grant n x.flown) s.number_is
              (subst (λ (z : Bool). FliesInAnyOrder z x.number grant intact grant intact x.flown)
              (awake s.flown_right.asleep s.flown_right.may) s.flown_right.flies);
        };
        is_second = subst (λ (n : ℕ). InTurn (Drained grant) n (length ks) (joined ks)) next rest.0;
      },
      (tt, zero_append x.flown (joined ks) s.zero rest.1),
      knows_same maximum a b (steps ks (tti_step x c)) (heard_more (joined ks) hs')
          (heard_more (records.Tti x.number ∷ (x.flown ++ joined ks)) hs) rest.2
          (λ d p. sym (heard_append d p (records.Tti x.number ∷ x.flown) (joined ks) (hs d p))),
      rest.3 ∙ omega (arith, next),
    )

rests_sound : (maximum : ℕ) (a b : Bool) (p : Part) (c : Checking) (hs : Hearings) (ks : List Chunk)
    → Knows maximum a b c hs → c.due ≡ Nothing → HasItsTtis c.next p [] → (finish (steps ks c)).right ≡ true
    → LineSound maximum a b p c hs ks
rests_sound maximum a b p c hs ks k due h e =
    let none = none_due ks c due (and_parts (steps ks c).right (is_met (steps ks c).due) e).0 in
    subst (λ (l : List Chunk). LineSound maximum a b p c hs l) (sym none) (empty_sound maximum a b p c hs k h)

pub line_sound : (line : Line) (maximum : ℕ) (c : Checking) (hs : Hearings) (ks : List Chunk)
    → Knows maximum (loses Down line) (loses Up line) c hs → c.due ≡ due_of line → AreInside ks
    → (finish (steps ks c)).right ≡ true
    → LineSound maximum (loses Down line) (loses Up line) (part_of_line line) c hs ks
line_sound (lines.Tti up_grant up down_grant down) maximum c hs ks k due inside e =
    once_sound maximum (is_miss down.fate)
    (is_miss up.fate) up_grant up down_grant down _ c hs ks refl k refl due inside e
line_sound (lines.Drain grant) maximum c hs ks k due inside e =
    let h = often_sound maximum false false grant c hs ks k refl due inside
    (and_parts (steps ks c).right (is_met (steps ks c).due) e).0 in
    record { ttis_are = (length ks, h.0); zero = h.1; knows = h.2; next_is = h.3 }
line_sound (lines.Submit side lcid octets) maximum c hs ks k due inside e =
    rests_sound maximum false false (Submits side lcid octets) c hs ks k due refl e
line_sound line maximum c hs ks k due inside e = rests_sound maximum false false Rests c hs ks k due refl e

-- ---- and what is right the checker finds so

of_air_inside : (one : Record) → is_of_air one ≡ true → is_inside one ≡ true
of_air_inside (records.Line number line) e = refl
of_air_inside (records.Tti t) e = absurd cc
of_air_inside one e = e

inside_of : (l : List Record) → AllAir l → AllInside l
inside_of [] air = tt
inside_of (one ∷ l) air = (of_air_inside one air.0, inside_of l air.1)

in_turn_front : (grant n t : ℕ) (told : List Record) → InTurn (Drained grant) t n told → front told ≡ []
in_turn_front grant zero t told h = ap front h
in_turn_front grant (suc n) t told h =
    ap front (h.told_are
    ∙ ap (λ (l : List Record). l ++ h.second)
    (h.is_first.told_are ∙ ap (λ (l : List Record). l ++ h.is_first.second) h.is_first.is_first))

-- a TTI of a drain
pub drained_right : (t grant : ℕ) (flown : List Record) → FliesInDrain grant t flown
    → FlownRight t (granted_often grant) flown
drained_right t grant flown h = record { asleep = false; may = refl; flies = h }

more_heard : (t : ℕ) (told flown more : List Record) (hs : Hearings) → told ≡ records.Tti t ∷ (flown ++ more)
    → SameHeard (heard_more told hs) (heard_more more (heard_more (records.Tti t ∷ flown) hs))
more_heard t told flown more hs e d p =
    ap (λ (l : List Record). heard d p l (hs d p)) e
    ∙ heard_append d p (records.Tti t ∷ flown) more (hs d p)

in_turn_less : (maximum grant n t : ℕ) (told : List Record) (hs : Hearings) → InTurn (Drained grant) t n told
    → Carries maximum (heard_more told hs) → Carries maximum hs
in_turn_less maximum grant zero t told hs h k =
    carries_same maximum (heard_more told hs) hs k (λ d p. ap (λ (l : List Record). heard d p l (hs d p)) h)
in_turn_less maximum grant (suc n) t told hs h k =
    let flown = h.is_first.second in
    let is : told ≡ records.Tti t ∷ (flown ++ h.second) = h.told_are
    ∙ ap (λ (l : List Record). l ++ h.second)
    (h.is_first.told_are ∙ ap (λ (l : List Record). l ++ flown) h.is_first.is_first) in
    carries_less maximum t (granted_often grant) flown hs (drained_right t grant flown h.is_first.is_second)
    (in_turn_less maximum grant n (t + 1) h.second (heard_more (records.Tti t ∷ flown) hs) h.is_second
    (carries_same maximum (heard_more told hs) (heard_more h.second (heard_more (records.Tti t ∷ flown) hs)) k
    (more_heard t told flown h.second hs is)))

-- the first TTI of a list
opened : (t : ℕ) (flown more : List Record) → AllAir flown → front more ≡ []
    → chunks (records.Tti t ∷ (flown ++ more)) ≡ record { number = t; flown = flown } ∷ chunks more
opened t flown more air none =
    ap (λ (l : List Record). (record { number = t; flown = l }) ∷ chunks (flown ++ more))
    (front_air flown more air ∙ ap (λ (l : List Record). flown ++ l) none ∙ append-nil flown)
    ∙ ap (λ (l : List Chunk). (record { number = t; flown = flown }) ∷ l) (chunks_air flown more air)

met : (c : Checking) (d : Due) → c.right ≡ true → c.due ≡ d → is_met d ≡ true → (finish c).right ≡ true
met c d right due e = and_from c.right (is_met c.due) right (ap is_met due ∙ e)

once_complete : (maximum : ℕ) (a b : Bool) (up_grant : ℕ) (up : Outcome) (down_grant : ℕ) (down : Outcome)
    (c : Checking) (hs : Hearings) (told : List Record) → Knows maximum a b c hs → b ≡ is_miss up.fate
    → c.due ≡ Once (record { up_grant = up_grant; up = up; down_grant = down_grant; down = down; may_sleep = true })
    → HasItsTtis c.next (Passes up_grant up down_grant down) told → AllZero told
    → Carries maximum (heard_more told hs)
    → (front told ≡ []) × ((finish (steps (chunks told) c)).right ≡ true)
once_complete maximum a b up_grant up down_grant down c hs told k lost due h zeros carries =
    let g : Granted =
    record { up_grant = up_grant; up = up; down_grant = down_grant; down = down; may_sleep = true } in
    let t = c.next in
    let flown = h.second in
    let is : told ≡ records.Tti t ∷ flown = h.told_are ∙ ap (λ (l : List Record). l ++ flown) h.is_first in
    let right : FlownRight t g flown = record {
      asleep = h.is_second.0;
      may = may_sleep h.is_second.0;
      flies = h.is_second.1;
    } in
    let air = flown_air t g flown right in
    let zeros' : AllZero (records.Tti t ∷ flown) = subst (λ (l : List Record). AllZero l) is zeros in
    let one = tti_complete maximum a b t flown g Nothing c hs k lost refl right zeros'.1
    (carries_same maximum (heard_more told hs) (heard_more (records.Tti t ∷ flown) hs) carries
    (λ d p. ap (λ (l : List Record). heard d p l (hs d p)) is)) in
    let s = tti_sound maximum a b t flown g Nothing c hs k lost (inside_of flown air) one in
    let chunk : Chunk = record { number = t; flown = flown } in
    let cut : chunks told ≡ chunk ∷ [] =
    ap chunks (is ∙ ap (λ (l : List Record). records.Tti t ∷ l) (sym (append-nil flown)))
    ∙ opened t flown [] air refl in
    let step = step_is chunk c (Once g) due in (
      ap front is,
      subst (λ (l : List Chunk). (finish (steps l c)).right ≡ true) (sym cut)
          (subst (λ (y : Checking). (finish y).right ≡ true) (sym step)
          (met (tti_of t flown g Nothing c) Nothing one s.due_is refl)),
    )
  where
    may_sleep : (asleep : Bool) → (not asleep || true) ≡ true
    may_sleep true = refl
    may_sleep false = refl

often_complete : (maximum : ℕ) (a b : Bool) (grant n t : ℕ) (c : Checking) (hs : Hearings) (told : List Record)
    → Knows maximum a b c hs → b ≡ false → c.due ≡ Often grant → t ≡ c.next → InTurn (Drained grant) t n told
    → AllZero told → Carries maximum (heard_more told hs) → (finish (steps (chunks told) c)).right ≡ true
often_complete maximum a b grant zero t c hs told k lost due number h zeros carries =
    subst (λ (l : List Record). (finish (steps (chunks l) c)).right
    ≡ true) (sym h) (met c (Often grant) k.is_right due refl)
often_complete maximum a b grant (suc n) t c hs told k lost due number h zeros carries =
    let g = granted_often grant in
    let flown = h.is_first.second in
    let is : told ≡ records.Tti t ∷ (flown ++ h.second) = h.told_are
    ∙ ap (λ (l : List Record). l ++ h.second)
    (h.is_first.told_are ∙ ap (λ (l : List Record). l ++ flown) h.is_first.is_first) in
    let hs' = heard_more (records.Tti t ∷ flown) hs in
    let right = drained_right t grant flown h.is_first.is_second in
    let air = flown_air t g flown right in
    let zeros' : AllZero (records.Tti t ∷ (flown ++ h.second)) = subst (λ (l : List Record). AllZero l) is zeros in
    let later : Carries maximum (heard_more h.second hs') =
    carries_same maximum (heard_more told hs) (heard_more h.second hs') carries (more_heard t told flown h.second hs is)
    in
    let one = tti_complete maximum a b t flown g (Often grant) c hs k lost number right
    (zero_first flown h.second zeros'.1) (in_turn_less maximum grant n (t + 1) h.second hs' h.is_second later) in
    let s = tti_sound maximum a b t flown g (Often grant) c hs k lost (inside_of flown air) one in
    let c' = tti_of t flown g (Often grant) c in
    let chunk : Chunk = record { number = t; flown = flown } in
    let cut : chunks told ≡ chunk ∷ chunks h.second =
    ap chunks is ∙ opened t flown h.second air (in_turn_front grant n (t + 1) h.second h.is_second) in
    let rest = often_complete maximum a b grant n (t + 1) c' hs' h.second s.knows lost s.due_is
    (omega (arith, number, s.next_is)) h.is_second (zero_second flown h.second zeros'.1) later in
    subst (λ (l : List Chunk). (finish (steps l c)).right ≡ true) (sym cut)
    (subst (λ (y : Checking). (finish (steps (chunks h.second) y)).right ≡ true)
    (sym (step_is chunk c (Often grant) due)) rest)

rests_complete : (maximum : ℕ) (a b : Bool) (c : Checking) (hs : Hearings) (told : List Record)
    → Knows maximum a b c hs → c.due ≡ Nothing → told ≡ []
    → (front told ≡ []) × ((finish (steps (chunks told) c)).right ≡ true)
rests_complete maximum a b c hs told k due h = (
  ap front h,
  subst (λ (l : List Record). (finish (steps (chunks l) c)).right ≡ true) (sym h)
      (met c Nothing k.is_right due refl),
)

pub line_complete : (line : Line) (maximum : ℕ) (c : Checking) (hs : Hearings) (told : List Record)
    → Knows maximum (loses Down line) (loses Up line) c hs → c.due ≡ due_of line
    → HasItsTtis c.next (part_of_line line) told → AllZero told → Carries maximum (heard_more told hs)
    → (front told ≡ []) × ((finish (steps (chunks told) c)).right ≡ true)
line_complete (lines.Tti up_grant up down_grant down) maximum c hs told k due h zeros carries =
    once_complete maximum (is_miss down.fate) (is_miss up.fate) up_grant up down_grant down c hs told k refl due h zeros
    carries
line_complete (lines.Drain grant) maximum c hs told k due h zeros carries = (
  in_turn_front grant h.0 c.next told h.1,
  often_complete maximum false false grant h.0 c.next c hs told k refl due refl h.1 zeros carries,
)
line_complete (lines.Submit side lcid octets) maximum c hs told k due h zeros carries =
    rests_complete maximum false false c hs told k due h
line_complete line maximum c hs told k due h zeros carries = rests_complete maximum false false c hs told k due h
