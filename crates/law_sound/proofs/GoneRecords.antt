-- The records of a handover's group leave what is gathered of a channel.
use Rattle.std.proofs.Common.{◌≡◌, ℕ, Bool, false, if◌then◌else◌, List, [], ◌∷◌}
use Rattle.std.proofs.Common.{length, Option, refl, ap, sym, subst, ◌∙◌}
use Rattle.std.proofs.Common.{arith}
use Rattle.std.specs.List.{AllByRecursion, filter}
use Rattle.std.proofs.lemmas.List.Elements.{All-nil}
use Rattle.air_record.specs.declared.record.Record.{Record}
use Rattle.air_record.specs.declared.record.Record.TheVariants as records
use Rattle.bearer_types.specs.declared.event.Event.{Event}
use Rattle.bearer_types.specs.declared.event.Event.TheVariants as events
use Rattle.l2_types.specs.declared.side.Side.{Side}
use Rattle.l2_types.specs.declared.side.Side.TheVariants.{Nb, Ue}
use Rattle.law_words.specs.Sequences.{many}
use Rattle.promises.specs.RightForm.{is_built, IsBuilt}
use Rattle.pdcp_pdu.specs.declared.pdu.PdcpKind.{PdcpKind}
use Rattle.pdcp_pdu.specs.declared.pdu.PdcpKind.TheVariants as pdcp
use Rattle.pdu_show.specs.declared.kinds.Layout.{Layout}
use Rattle.journal_flows.specs.FlowsTold.{Histories, histories}
use Rattle.journal_flows.specs.Gathering.{Journal}
use Rattle.journal_flows.specs.Gathering.{behind_record}
use Rattle.journal_lives.specs.LifeEvents.{LifeEvent, running}
use Rattle.journal_status.specs.RightStatus.{tells_ignored, ignored_told}
use Rattle.l2_types.specs.declared.event.Lost.TheVariants as losts
use Rattle.law_deliver.specs.AmFlow.Air.{Air}
use Rattle.law_sound.specs.BesideLaws.{ReadRecord, behind_all, IsGatheredBeside, LeavesFlows}
use Rattle.law_sound.specs.GatherLaws.{HasCount}
use Rattle.law_sound.specs.LivedHistories.{Moment}
use Rattle.law_sound.specs.StepReading.{read_as, HasCountOn, ignored_so_far, AreTruly, AreFormed}
use Rattle.law_sound.proofs.OtherRecords.{IsLeft, one_left, holds_same}
use Rattle.law_sound.proofs.StepRecords.{records_read}
use Rattle.law_sound.proofs.StepStatuses.{IsPlain, plain_truly, plain_same, ignored_next}
use Rattle.law_sound.proofs.Still.{IsGoneEvent, IsGone, AreGone}

-- ---- records of a handover leave what is gathered

gone_leaves : (l : ℕ) (one : Record) → IsGone one → LeavesFlows l one
gone_leaves l (records.Of side (events.Up lcid sdu)) h = refl
gone_leaves l (records.Of side (events.Drop lcid why)) h = refl
gone_leaves l (records.Of side (events.Integrity lcid found wanted)) h = refl
gone_leaves l (records.Of side (events.BadPdcp lcid fault)) h = refl
gone_leaves l (records.Of side event) h = absurd h
gone_leaves l (records.Block way process fresh version octets) h = absurd h
gone_leaves l (records.Air way what heard) h = absurd h
gone_leaves l one h = tt

left_then : (l : ℕ) (i j k : Journal Histories) → IsLeft l i j → IsLeft l j k → IsLeft l i k
left_then l i j k p q =
    record { flow = λ side. p.flow side ∙ q.flow side; nb = p.nb ∙ q.nb; ue = p.ue ∙ q.ue }

pub turned_left : (l : ℕ) (i j : Journal Histories) → IsLeft l i j → IsLeft l j i
turned_left l i j p = record { flow = λ side. sym (p.flow side); nb = sym p.nb; ue = sym p.ue }

pub gone_left : (ks : List (Option Layout)) (l : ℕ) (reads : List ReadRecord) (j : Journal Histories)
    → AllByRecursion (λ (x : ReadRecord). IsGone x.one) reads → IsLeft l (behind_all ks reads j) j
gone_left ks l [] j gone = record { flow = λ side. refl; nb = refl; ue = refl }
gone_left ks l (x ∷ reads) j gone =
    let i = behind_record histories ks x.more x.one j in
    left_then l _ i j (gone_left ks l reads i gone.1) (one_left ks x.more l x.one j (gone_leaves l x.one gone.0))

pub left_beside : (l : ℕ) (a : Air) (m : Moment) (i j : Journal Histories) → IsLeft l i j
    → IsGatheredBeside l a m.pdus m.down m.up i → IsGatheredBeside l a m.pdus m.down m.up j
left_beside l a m i j left g = record {
  down_is = ap (λ (es : List LifeEvent). running es) (sym (left.flow Nb)) ∙ g.down_is;
  up_is = ap (λ (es : List LifeEvent). running es) (sym (left.flow Ue)) ∙ g.up_is;
  by_nb = holds_same l i.nb j.nb a.nb.blocks m.pdus.nb (sym left.nb) g.by_nb;
  by_ue = holds_same l i.ue j.ue a.ue.blocks m.pdus.ue (sym left.ue) g.by_ue;
}

gone_plain : (one : Record) → IsGone one → IsPlain one
gone_plain (records.Block way process fresh version octets) h = absurd h
gone_plain (records.Air way what heard) h = absurd h
gone_plain one h = tt

all_plain : (reads : List ReadRecord) → AllByRecursion (λ (x : ReadRecord). IsGone x.one) reads
    → AllByRecursion (λ (x : ReadRecord). IsPlain x.one) reads
all_plain [] gone = tt
all_plain (x ∷ reads) gone = (gone_plain x.one gone.0, all_plain reads gone.1)

gone_unbuilt : (side : Side) (one : Record) → IsGone one → is_built side one ≡ false
gone_unbuilt side (records.Of own (events.Up lcid sdu)) h = refl
gone_unbuilt side (records.Of own (events.Drop lcid why)) h = refl
gone_unbuilt side (records.Of own (events.Integrity lcid found wanted)) h = refl
gone_unbuilt side (records.Of own (events.BadPdcp lcid fault)) h = refl
gone_unbuilt side (records.Of own event) h = absurd h
gone_unbuilt side (records.Block way process fresh version octets) h = absurd h
gone_unbuilt side (records.Air way what heard) h = absurd h
gone_unbuilt side one h = refl

unbuilt_all : (side : Side) (told : List Record) → AreGone told → filter (is_built side) told ≡ []
unbuilt_all side [] h = refl
unbuilt_all side (one ∷ told) h =
    ap (λ (b : Bool). if b then one ∷ filter (is_built side) told else filter (is_built side) told)
    (gone_unbuilt side one h.0)
    ∙ unbuilt_all side told h.1

pub gone_formed : (ks : List (Option Layout)) (told : List Record) → AreGone told → AreFormed ks told
gone_formed ks told h side =
    subst (many (IsBuilt side ks)) (sym (unbuilt_all side told h))
    (record { parts = []; told_are = refl; are_each = All-nil (IsBuilt side ks) })

pub gone_counts : (kind : PdcpKind) (l : ℕ) (told : List Record) → AreGone told
    → AllByRecursion (HasCountOn kind l) told
gone_counts kind l [] h = tt
gone_counts kind l (one ∷ told) h = (by one h.0, gone_counts kind l told h.1)
  where
    event : (k : PdcpKind) (e : Event) → IsGoneEvent e → HasCount k e
    event pdcp.Srb e g = tt
    event k (events.Take lcid count len) g = absurd g
    event (pdcp.Um bits) e g = tt
    event (pdcp.Am bits) e g = tt

    by : (one : Record) → IsGone one → HasCountOn kind l one
    by (records.Of side e) g = λ on. event kind e g
    by one g = tt

none_ignored : (side : Side) (l : ℕ) (told : List Record) → AreGone told → ignored_told side l told ≡ 0
none_ignored side l [] h = refl
none_ignored side l (one ∷ told) h =
    let all = ignored_next side l one told in
    let rest = none_ignored side l told h.1 in
    let now = ap (λ (b : Bool). length (if b then one ∷ [] else [])) (silent one h.0) in
    omega (arith, all, rest, now)
  where
    silent : (one : Record) → IsGone one → tells_ignored side l one ≡ false
    silent (records.Of own (events.Drop lcid losts.Ignored)) g = absurd g
    silent (records.Of own e) g = refl
    silent one g = refl

read_gone : (flag : Bool) (told : List Record) → AreGone told
    → AllByRecursion (λ (x : ReadRecord). IsGone x.one) (read_as flag told)
read_gone flag [] h = tt
read_gone flag (one ∷ told) h = (h.0, read_gone flag told h.1)

-- they tell of no STATUS
pub gone_truly : (ks : List (Option Layout)) (l : ℕ) (told : List Record) (j : Journal Histories) → AreGone told
    → AreTruly ks l j (read_as false told)
gone_truly ks l told j h =
    let xs = read_as false told in
    let plain = all_plain xs (read_gone false told h) in
    let none = λ (side : Side). ap (ignored_told side l) (records_read false told) ∙ none_ignored side l told h in
    record {
      each = plain_truly ks l xs (λ side. ignored_so_far side l j) j plain
          (λ side. let zero' = none side in omega (arith, zero'));
      all = λ side. let zero' = none side in let same = plain_same ks l xs side j plain in omega (arith, zero', same);
    }
