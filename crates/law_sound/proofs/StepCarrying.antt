-- Step by step, what is gathered of a line's records stays beside both ends on a channel with acknowledged bearers, and
-- with it all that each step of a life, and records that log nothing, carry on.
use Rattle.std.proofs.Common.{◌≡◌, ◌≤◌, ℕ, ◌+◌, ◌==◌, Bool, false, if◌then◌else◌, List, [], ◌∷◌, ◌++◌}
use Rattle.std.proofs.Common.{length, Option, Some, None, append-nil, append_assoc, length-append, refl, ap, sym, subst}
use Rattle.std.proofs.Common.{◌∙◌, ◌⊎◌, inl, inr, arith}
use Rattle.std.specs.Prelude.{slice_index_or}
use Rattle.std.specs.List.{AllByRecursion}
use Rattle.std.proofs.lemmas.Bool.{eq-eqb}
use Rattle.air_link.specs.Link.{Link, end_of}
use Rattle.air_record.specs.declared.record.Record.{Record}
use Rattle.air_record.specs.declared.record.Record.TheVariants as records
use Rattle.bearer_types.specs.Sides.{is_same}
use Rattle.l2_bits.specs.declared.fault.SubmitRefusal.{SubmitRefusal}
use Rattle.l2_node.specs.Submitting.{refusal}
use Rattle.l2_types.specs.declared.side.Side.{Side}
use Rattle.l2_types.specs.declared.side.Side.TheVariants.{Nb, Ue}
use Rattle.pdcp_pdu.specs.declared.pdu.PdcpKind.{PdcpKind}
use Rattle.pdu_show.specs.declared.kinds.Layout.{Layout}
use Rattle.pdu_show.specs.declared.kinds.Layout.TheVariants as layouts
use Rattle.promises.specs.Flows.{looped_at}
use Rattle.journal_flows.specs.FlowsTold.{Histories}
use Rattle.journal_flows.specs.Gathering.{Journal, sending_of}
use Rattle.law_deliver.specs.AmChannel.Delivery.{accepted, was_submitted}
use Rattle.law_deliver.specs.AmChannel.Lives.{AirStep, InLife, Moves, AreLiving, lives, end_at, calls_at}
use Rattle.law_deliver.specs.AmFlow.Air.{Air, Step, happens, IsGiven}
use Rattle.law_deliver.proofs.AmFlow.Carrying.{front, rest}
use Rattle.law_run.specs.AnyCalls.Runs.{Step as LinkStep, Submit}
use Rattle.law_run.specs.TwoEnds.Along.{AreAlong}
use Rattle.law_run.specs.TwoEnds.Going.{GoesOn, IsStepSince, handed_in}
use Rattle.law_run.specs.TwoEnds.Logs.{Flight, process_of, no_flight, last_in, flight_in, logged, log_at}
use Rattle.law_run.proofs.TwoEnds.Along.{flight_more}
use Rattle.law_run.specs.TwoEnds.On.{IsOn}
use Rattle.law_run.specs.TwoEnds.Staying.{Stays, AreInLife, is_handover_step}
use Rattle.law_run.proofs.Flowing.{Sdus, Happened, StepLives, GoesThrough, looped_then}
use Rattle.law_run.proofs.TwoEnds.Advancing.{steps_stay}
use Rattle.law_run.proofs.TwoEnds.Coming.{same_on}
use Rattle.law_sound.specs.BesideLaws.{ReadRecord, behind_all, IsGatheredBeside}
use Rattle.law_sound.specs.LivedHistories.{Moment, GoOver}
use Rattle.law_sound.specs.LivedLimits.{AreLimits}
use Rattle.law_sound.specs.LoggedRecords.{records_of}
use Rattle.law_sound.specs.StepReading.{HasCountOn, AreTruly, IsRead, AreFormed, AreReadTo, IsFlightOf}
use Rattle.law_sound.proofs.GroupFails.{Stretches, steps_stretch, stretch_then}
use Rattle.law_sound.proofs.LivedLimits.{limits_stay}
use Rattle.law_sound.proofs.StepLogs.{all_then, records_then}
use Rattle.law_sound.proofs.StepNames.{processes_known}
use Rattle.law_sound.proofs.StepReading.{steps_are_read}
use Rattle.law_sound.proofs.StepReads.{both_truly}

abbrev pub flight_of : Journal Histories → Flight
flight_of j = record { nb = j.nb.process; ue = j.ue.process; octets = [] }

-- behind records of a group, with the octets of the block that was sent last among them
abbrev pub flight_at : List Record → Journal Histories → Flight
flight_at told j = record { nb = j.nb.process; ue = j.ue.process; octets = last_in told [] }

pub flies_at : (told : List Record) (j : Journal Histories) → IsFlightOf j (flight_at told j)
flies_at told j = record { nb_is = refl; ue_is = refl }

pub flies_so : (j : Journal Histories) → IsFlightOf j (flight_of j)
flies_so j = record { nb_is = refl; ue_is = refl }

pub read_same : (kind : PdcpKind) (l : ℕ) (a : Air) (m : Moment) (i j : Journal Histories) → i ≡ j
    → IsRead kind l a m i → IsRead kind l a m j
read_same kind l a m i j e r = record {
  lived = r.lived;
  new = r.new;
  modes = r.modes;
  gathered = subst (IsGatheredBeside l a m.pdus m.down m.up) e r.gathered;
  named = λ side. ap (λ (k : Journal Histories). (sending_of side k).named) (sym e) ∙ r.named side;
}

-- ---- what is said of each record, behind those before it

abbrev pub AllSaid : (List Record → ReadRecord → Type 0) → List Record → List ReadRecord → Type 0
AllSaid Says told [] = Unit {0}
AllSaid Says told (x ∷ xs) = Says told x × AllSaid Says (told ++ x.one ∷ []) xs

pub said_then : (Says : List Record → ReadRecord → Type 0) (told : List Record) (xs ys : List ReadRecord)
    → AllSaid Says told xs → AllSaid Says (told ++ records_of xs) ys → AllSaid Says told (xs ++ ys)
said_then Says told [] ys p q = subst (λ (zs : List Record). AllSaid Says zs ys) (append-nil told) q
said_then Says told (x ∷ xs) ys p q = (
  p.0,
  said_then Says (told ++ x.one ∷ []) xs ys p.1
      (subst (λ (zs : List Record). AllSaid Says zs ys) (sym (append_assoc told (x.one ∷ []) (records_of xs))) q),
)

-- ---- steps of a life

module _ (l : ℕ) (kind : PdcpKind) (ks : List (Option Layout)) (events : List Record)
    (Within : List Record → Air → Moment → Journal Histories → Type 0) (Says : List Record → ReadRecord → Type 0) where
  -- what goes on so among the records of a group: behind the first of them it is `Within`, and each is as it `Says`
  pub record Carries : Type 0 where
    -- with one step, and what its records tell
    pub one_step : (s : Step) (a : Air) (m : Moment) (j : Journal Histories) (told xs others : List Record)
        (sent : Flight) → IsGiven l a s → sent.octets ≡ last_in told [] → events ≡ told ++ (xs ++ others)
        → logged sent xs ≡ log_at a (InLife s)
        → ((side : Side) (n : ℕ) → looped_at side n xs ≡ was_submitted n (calls_at side a (InLife s)) (end_at side a))
        → IsFlightOf j sent → IsRead kind l a m j → (x : AreReadTo ks kind l a (InLife s ∷ []) m j xs others)
        → Within told a m j
        → Within (told ++ xs) (happens a s) x.last (behind_all ks x.reads j) × AllSaid Says told x.reads
    -- with records that log nothing and tell of no loop
    pub silent : (a : Air) (m : Moment) (j : Journal Histories) (told : List Record) (xs : List ReadRecord)
        (others : List Record) (sent : Flight) → sent.octets ≡ last_in told []
        → events ≡ told ++ (records_of xs ++ others)
        → logged sent (records_of xs) ≡ [] → ((side : Side) (n : ℕ) → looped_at side n (records_of xs) ≡ [])
        → IsRead kind l a m j → Within told a m j
        → Within (told ++ records_of xs) a m (behind_all ks xs j) × AllSaid Says told xs

  -- records of steps are read, and carry it on where it stood before them
  pub record CarriedTo (Stood : Type 0) (steps : List AirStep) (a : Air) (m : Moment) (j : Journal Histories)
      (told more others : List Record) : Type 0 where
    pub reads : List ReadRecord
    pub are : records_of reads ≡ more
    pub last : Moment
    pub over : GoOver l steps a m last
    pub read : IsRead kind l (lives steps a) last (behind_all ks reads j)
    pub statuses : AreTruly ks l j reads
    pub formed : AreFormed ks others
    pub carried : Stood → Within (told ++ more) (lives steps a) last (behind_all ks reads j)
        × AllSaid Says told reads

  module _ (known : slice_index_or ks l None ≡ Some (layouts.Am kind)) (carries : Carries) (Stood : Type 0) where
    none_carried : (a : Air) (m : Moment) (j : Journal Histories) (sent : Flight) (told more others : List Record)
        → IsRead kind l a m j → IsFlightOf j sent → sent.octets ≡ last_in told [] → events ≡ told ++ (more ++ others)
        → logged sent more ≡ []
        → ((side : Side) (n : ℕ) → looped_at side n more ≡ []) → AllByRecursion (HasCountOn kind l) more
        → AreFormed ks (more ++ others) → (Stood → Within told a m j) → CarriedTo Stood [] a m j told more others
    none_carried a m j sent told more others r flight octets are logs loops counts formed stood =
        let x = steps_are_read ks kind l [] a m sent j more others known tt tt r flight logs counts formed in
        let i = behind_all ks x.reads j in
        record {
          reads = x.reads;
          are = x.are;
          last = x.last;
          over = x.over;
          read = x.read;
          statuses = x.statuses;
          formed = x.formed;
          carried = λ so.
              let p = carries.silent a m j told x.reads others sent octets
              (are ∙ ap (λ (zs : List Record). told ++ (zs ++ others)) (sym x.are)) (ap (logged sent) x.are ∙ logs)
              (λ side n. ap (looped_at side n) x.are ∙ loops side n) r (stood so) in (
                subst (λ (zs : List Record). Within (told ++ zs) a x.last i) x.are
                    (subst (λ (n : Moment). Within (told ++ records_of x.reads) a n i) x.over p.0),
                p.1,
              );
        }

    pub steps_are_carried : (steps : List AirStep) (a : Air) (m : Moment) (j : Journal Histories) (sent : Flight)
        (told more others : List Record) → AreLiving l a steps → AreInLife steps → IsRead kind l a m j
        → IsFlightOf j sent → sent.octets ≡ last_in told [] → events ≡ told ++ (more ++ others)
        → AreAlong sent steps a more
        → AllByRecursion (HasCountOn kind l) more → AreFormed ks (more ++ others) → (Stood → Within told a m j)
        → CarriedTo Stood steps a m j told more others
    steps_are_carried [] a m j sent told more others living life r flight octets are along counts formed stood =
        none_carried a m j sent told more others r flight octets are along.0 along.1 counts formed stood
    steps_are_carried (InLife s ∷ steps) a m j sent told more others living life r flight octets are along counts formed
        stood =
        let now = along.now in
        let later = along.later in
        let parted : more ++ others ≡ now ++ (later ++ others) =
        ap (λ (zs : List Record). zs ++ others) along.are ∙ append_assoc now later others in
        let all : AllByRecursion (HasCountOn kind l) (now ++ later) =
        subst (AllByRecursion (HasCountOn kind l)) along.are counts in
        let x = steps_are_read ks kind l (InLife s ∷ []) a m sent j now (later ++ others) known (living.0, tt) tt r
        flight (along.logs ∙ sym (append-nil (log_at a (InLife s)))) (front (HasCountOn kind l) now later all)
        (subst (AreFormed ks) parted formed) in
        let first : events ≡ told ++ (now ++ (later ++ others)) =
        are ∙ ap (λ (zs : List Record). told ++ zs) parted in
        let i = behind_all ks x.reads j in
        let one = λ (so : Stood). carries.one_step s a m j told now
        (later ++ others) sent living.0 octets first along.logs
        along.looped flight r x (stood so) in
        let process = λ (side : Side) (is : (sending_of side j).process ≡ process_of side sent).
        processes_known ks x.reads side j sent is
        ∙ ap (λ (zs : List Record). process_of side (flight_in zs sent)) x.are in
        let y = steps_are_carried steps (happens a s) x.last i (flight_in now sent) (told ++ now) later others living.1
        life x.read (record { nb_is = process Nb flight.nb_is; ue_is = process Ue flight.ue_is })
        (ap (last_in now) octets ∙ ap (λ (z : Flight). z.octets) (flight_more told now no_flight))
        (first ∙ sym (append_assoc told now (later ++ others))) along.others (rest (HasCountOn kind l) now later all)
        x.formed (λ so. (one so).0) in
        let told_are : (told ++ now) ++ later ≡ told ++ more =
        append_assoc told now later ∙ ap (λ (zs : List Record). told ++ zs) (sym along.are) in
        let b = lives steps (happens a s) in
        let same = sym (all_then ks x.reads y.reads j) in
        record {
          reads = x.reads ++ y.reads;
          are = records_then x.reads y.reads
              ∙ (ap (λ (zs : List Record). zs ++ records_of y.reads) x.are
              ∙ (ap (λ (zs : List Record). now ++ zs) y.are ∙ sym along.are));
          last = y.last;
          over = (
            x.over.0,
            subst (λ (n : Moment). GoOver l steps (happens a s) n y.last) (sym x.over.1) y.over,
          );
          read = read_same kind l b y.last _ _ same y.read;
          statuses = both_truly ks kind l j x.reads y.reads x.statuses y.statuses;
          formed = y.formed;
          carried = λ so.
              let p = y.carried so in (
                subst (Within (told ++ more) b y.last) same
                    (subst (λ (zs : List Record). Within zs b y.last (behind_all ks y.reads i)) told_are p.0),
                said_then Says told x.reads y.reads (one so).1
                    (subst (λ (zs : List Record). AllSaid Says (told ++ zs) y.reads) (sym x.are) p.1),
              );
        }
    steps_are_carried (Moves keys ∷ steps) a m j sent told more others living life r flight octets are along counts
        formed
        stood = absurd life

-- ---- SDUs that are handed in

-- all of them by the loop
abbrev pub AsLooped : List Record → Sdus → Type 0
AsLooped told handed = (side : Side) (n : ℕ) → length (handed side n) ≡ length (looped_at side n told)

abbrev pub WithLooped : List Record → Sdus → Type 0
WithLooped told handed = (side : Side) (n : ℕ) → length (looped_at side n told) ≤ length (handed side n)

three : (xs ys zs : List (List ℕ)) → length (xs ++ (ys ++ zs)) ≡ length xs + length ys + length zs
three xs ys zs = omega (arith, length-append xs (ys ++ zs), length-append ys zs)

loops_more : (side : Side) (n : ℕ) (told more : List Record)
    → length (looped_at side n (told ++ more)) ≡ length (looped_at side n told) + length (looped_at side n more)
loops_more side n told more =
    ap length (looped_then side n told more) ∙ length-append (looped_at side n told) (looped_at side n more)

module _ (told more : List Record) (handed given : Sdus) (with' : WithLooped told handed) where
  abbrev all_handed : Sdus
  all_handed side n = handed side n ++ (given side n ++ looped_at side n more)

  pub loops_with : WithLooped (told ++ more) all_handed
  loops_with side n =
      let all = three (handed side n) (given side n) (looped_at side n more) in
      let loops = loops_more side n told more in
      let before = with' side n in
      omega (arith, all, loops, before)

  pub looped_before : AsLooped (told ++ more) all_handed → AsLooped told handed
  looped_before just side n =
      let all = three (handed side n) (given side n) (looped_at side n more) in
      let loops = loops_more side n told more in
      let before = with' side n in
      let now = just side n in
      omega (arith, all, loops, before, now)

  pub none_given : AsLooped (told ++ more) all_handed → (side : Side) (n : ℕ) → length (given side n) ≡ 0
  none_given just side n =
      let all = three (handed side n) (given side n) (looped_at side n more) in
      let loops = loops_more side n told more in
      let before = with' side n in
      let now = just side n in
      omega (arith, all, loops, before, now)

pub refusal_loops : (at : Side) (n : ℕ) (side : Side) (lcid : ℕ) (why : _)
    → looped_at at n (records.Refused side lcid why ∷ []) ≡ []
refusal_loops Nb n side lcid why = refl
refusal_loops Ue n side lcid why = refl

pub record HandsOne (s : LinkStep) (k : Link) : Type 0 where
  pub side : Side
  pub n : ℕ
  pub one : length (handed_in side n s k) ≡ 1

-- the records of a step of a link stand where its steps are, or it hands one in
pub along_or_one : (l : ℕ) (s : LinkStep) (k : Link) (a : Air) (g : GoesOn l s k a)
    → ((sent : Flight) → AreAlong sent g.by.steps a g.more) ⊎ HandsOne s k
along_or_one l (Submit side lcid sdu) k a g = by (refusal lcid sdu (end_of side k)) refl
  where
    takes : (side : Side) → length (if is_same side side then accepted None (lcid == lcid) sdu else []) ≡ 1
    takes Nb = ap (λ (b : Bool). length (if b then sdu ∷ [] else [])) (eq-eqb lcid lcid refl)
    takes Ue = ap (λ (b : Bool). length (if b then sdu ∷ [] else [])) (eq-eqb lcid lcid refl)

    refused : (sent : Flight) (steps : List AirStep) (more told : List Record) → steps ≡ [] → more ≡ told
        → (logged sent told ≡ []) × ((side : Side) (n : ℕ) → looped_at side n told ≡ []) → AreAlong sent steps a more
    refused sent steps more told e f h =
        subst (λ (xs : List AirStep). AreAlong sent xs a more) (sym e)
        (subst (λ (zs : List Record). AreAlong sent [] a zs) (sym f) h)

    by : (r : Option SubmitRefusal) → refusal lcid sdu (end_of side k) ≡ r
        → ((sent : Flight) → AreAlong sent g.by.steps a g.more) ⊎ HandsOne (Submit side lcid sdu) k
    by None q = inr (record {
      side = side;
      n = lcid;
      one = ap (λ (r : Option SubmitRefusal). length
          (if is_same side side then accepted r (lcid == lcid) sdu else [])) q ∙ takes side;
    })
    by (Some why) q =
        let h = g.submits.refused why q in
        inl (λ sent. refused sent g.by.steps g.more _ h.0 h.1 (refl, λ at n. refusal_loops at n side lcid _))
along_or_one l s k a g = inl (g.along refl)

-- ---- a line that is no handover

module _ (l : ℕ) (kind : PdcpKind) (ks : List (Option Layout)) (events : List Record)
    (Within : List Record → Air → Moment → Journal Histories → Type 0) (Says : List Record → ReadRecord → Type 0)
    (known : slice_index_or ks l None ≡ Some (layouts.Am kind)) (carries : Carries l kind ks events Within Says)
    (counts : AllByRecursion (HasCountOn kind l) events) (first : Journal Histories) (most : ℕ) (start : Moment) where
  -- behind some records of the line, before the others
  pub record Gathers (Stood : Type 0) (told others : List Record) (air : Air) : Type 0 where
    pub reads : List ReadRecord
    pub are : records_of reads ≡ told
    pub moment : Moment
    pub read : IsRead kind l air moment (behind_all ks reads first)
    pub statuses : AreTruly ks l first reads
    pub stretches : Stretches most l told start moment
    pub limits : AreLimits most read.lived.nb_bearer read.lived.ue_bearer
    pub formed : AreFormed ks others
    pub carried : Stood → Within told air moment (behind_all ks reads first) × AllSaid Says [] reads

  abbrev pub To : Type 0 → List AirStep → (air : Air) → Moment → Journal Histories → List Record → List Record
      → List Record → Type 0
  To Stood steps air m j told more others = CarriedTo l kind ks events Within Says Stood steps air m j told more others

  pub gathers_more : (Before Stood : Type 0) (told more others : List Record) (steps : List AirStep) (air : Air)
      (g : Gathers Before told (more ++ others) air) → AreLiving l air steps
      → (x : To Stood steps air g.moment (behind_all ks g.reads first) told more others) → (Stood → Before)
      → Stretches most l more g.moment x.last → Gathers Stood (told ++ more) others (lives steps air)
  gathers_more Before Stood told more others steps air g living x before stretches =
      let same = sym (all_then ks g.reads x.reads first) in
      let now = read_same kind l (lives steps air) x.last _ _ same x.read in
      record {
        reads = g.reads ++ x.reads;
        are = records_then g.reads x.reads
            ∙ (ap (λ (zs : List Record). zs ++ records_of x.reads) g.are ∙ ap (λ (zs : List Record). told ++ zs) x.are);
        moment = x.last;
        read = now;
        statuses = both_truly ks kind l first g.reads x.reads g.statuses x.statuses;
        stretches = stretch_then most l told more start g.moment x.last g.stretches stretches;
        limits = limits_stay most l steps air g.moment x.last g.read.new living g.read.lived now.lived g.limits;
        formed = x.formed;
        carried = λ so.
            let p = g.carried (before so) in
            let q = x.carried so in (
              subst (Within (told ++ more) (lives steps air) x.last) same q.0,
              said_then Says [] g.reads x.reads p.1
                  (subst (λ (zs : List Record). AllSaid Says zs x.reads) (sym g.are) q.1),
            );
      }

  pub record Live (told : List Record) (handed : Sdus) (flown : Happened) (set : Bool) (k : Link) : Type 0 where
    pub air : Air
    pub on : IsOn k air
    pub looped : WithLooped told handed
    pub gathers : (others : List Record) → events ≡ told ++ others → Gathers (AsLooped told handed) told others air

  -- what goes on so while only the loop hands in SDUs
  step_carried : (Before Stood : Type 0) (told others : List Record) (s : LinkStep) (k : Link) (air : Air)
      (x : Stays l s k air) → AreInLife x.goes.by.steps
      → (g : Gathers Before told (x.goes.more ++ others) air) → events ≡ told ++ (x.goes.more ++ others)
      → (Stood → Before) → (Stood → (side : Side) (n : ℕ) → length (handed_in side n s k) ≡ 0)
      → To Stood x.goes.by.steps air g.moment (behind_all ks g.reads first) told x.goes.more others
  step_carried Before Stood told others s k air x life g are before none =
      by (along_or_one l s k air x.goes)
    where
      by : ((sent : Flight) → AreAlong sent x.goes.by.steps air x.goes.more) ⊎ HandsOne s k
          → To Stood x.goes.by.steps air g.moment (behind_all ks g.reads first) told x.goes.more others
      by (inl along) =
          let j = behind_all ks g.reads first in
          let more = x.goes.more in
          steps_are_carried l kind ks events Within Says known carries Stood x.goes.by.steps air g.moment j
          (flight_at told j) told more others x.goes.by.living life g.read (flies_at told j) refl are
          (along (flight_at told j))
          (front (HasCountOn kind l) more others (rest (HasCountOn kind l) told (more ++ others)
          (subst (AllByRecursion (HasCountOn kind l)) are counts))) g.formed (λ so. (g.carried (before so)).0)
      by (inr h) =
          let j = behind_all ks g.reads first in
          let more = x.goes.more in
          let y = steps_are_read ks kind l x.goes.by.steps air g.moment (flight_of j) j more others known
          x.goes.by.living life g.read (flies_so j)
          (x.goes.log_alone (flight_of j) ∙ sym x.goes.by.logged_is)
          (front (HasCountOn kind l) more others (rest (HasCountOn kind l) told (more ++ others)
          (subst (AllByRecursion (HasCountOn kind l)) are counts))) g.formed in
          record {
            reads = y.reads;
            are = y.are;
            last = y.last;
            over = y.over;
            read = y.read;
            statuses = y.statuses;
            formed = y.formed;
            carried = λ so.
                let no = none so h.side h.n in
                let one = h.one in
                absurd (omega (arith, no, one));
          }

  live_steps : (told : List Record) (handed : Sdus) (flown : Happened) (set : Bool) (s : LinkStep) (k : Link)
      → IsStepSince l s → is_handover_step s ≡ false → Live told handed flown set k
      → StepLives l Live told handed flown set s k
  live_steps told handed flown set s k own here h =
      let x = steps_stay l s k h.air own h.on in
      let by = x.goes.by in
      let more = x.goes.more in
      let life = x.in_life here in
      let given = λ (side : Side) (n : ℕ). handed_in side n s k in
      record {
        more = more;
        out_is = x.goes.out_is;
        alone = x.goes.alone;
        log_alone = x.goes.log_alone;
        lived = record {
          air = lives by.steps h.air;
          on = by.on;
          looped = loops_with told more handed given h.looped;
          gathers = λ others are.
              let so = are ∙ append_assoc told more others in
              let g = h.gathers (more ++ others) so in
              let before = looped_before told more handed given h.looped in
              let y = step_carried _ _ told others s k h.air x life g so before
              (none_given told more handed given h.looped) in
              gathers_more _ _ told more others by.steps h.air g by.living y before
              (steps_stretch most l more _ _ _ _ h.air g.moment y.last by g.read.new life g.read.lived y.over g.limits);
        };
      }

  gathers_same : (Before Stood : Type 0) (told others : List Record) (air : Air) → (Stood → Before)
      → Gathers Before told others air → Gathers Stood told others air
  gathers_same Before Stood told others air before g = record {
    reads = g.reads;
    are = g.are;
    moment = g.moment;
    read = g.read;
    statuses = g.statuses;
    stretches = g.stretches;
    limits = g.limits;
    formed = g.formed;
    carried = λ so. g.carried (before so);
  }

  live_same : (told told' : List Record) (handed handed' : Sdus) (flown flown' : Happened) (set set' : Bool) (k : Link)
      → told ≡ told' → ((side : Side) (n : ℕ) → handed side n ≡ handed' side n) → Live told handed flown set k
      → Live told' handed' flown' set' k
  live_same told told' handed handed' flown flown' set set' k e f h =
      subst (λ (zs : List Record). Live zs handed' flown' set' k) e (record {
        air = h.air;
        on = h.on;
        looped = λ side n. subst (λ (xs : List (List ℕ)). length (looped_at side n told) ≤ length xs) (f side n)
            (h.looped side n);
        gathers = λ others are. gathers_same _ _ told others h.air (λ just side n. ap length (f side n) ∙ just side n)
            (h.gathers others are);
      })

  pub through : GoesThrough l Live
  through = record {
    same = λ told told' handed handed' flown flown' set set' k e f a g h.
        live_same told told' handed handed' flown flown' set set' k e f h;
    unseen = λ told handed flown set k out h. record {
      air = h.air;
      on = same_on k (record k { out = out }) h.air refl refl refl h.on;
      looped = h.looped;
      gathers = h.gathers;
    };
    steps = live_steps;
  }
