-- Each record leaves alike what two gather of flows, where each event does, and both read PDUs alike.
use Rattle.std.proofs.Common.{◌≡◌, ℕ, Bool, true, false, List, [], ◌∷◌, ◌++◌, Option, Some, None, refl, ap, sym, ◌∙◌}
use Rattle.std.proofs.Common.{subst, if◌then◌else◌}
use Rattle.l2_types.specs.declared.event.How.{How}
use Rattle.l2_types.specs.declared.side.Side.{Side}
use Rattle.l2_types.specs.declared.side.Side.TheVariants.{Nb, Ue}
use Rattle.mac_pdu.specs.declared.builder.Sdu.{Sdu}
use Rattle.mac_pdu.specs.declared.item.Direction.{Direction}
use Rattle.mac_pdu.specs.Reading.{reading}
use Rattle.bearer_types.specs.declared.event.Event.{Event}
use Rattle.bearer_types.specs.declared.event.Event.TheVariants as events
use Rattle.bearer_types.specs.Sides.{sender_of}
use Rattle.air_record.specs.declared.record.Record.{Record}
use Rattle.air_record.specs.declared.record.Record.TheVariants as records
use Rattle.air_text.specs.Groups.{Group}
use Rattle.pdu_show.specs.declared.kinds.Layout.{Layout}
use Rattle.promises.specs.Records.{is_got}
use Rattle.journal_flows.specs.declared.parcels.Parcel.{Parcel}
use Rattle.journal_flows.specs.declared.sending.Named.{Named}
use Rattle.journal_flows.specs.NumberedPdus.{Told, written_as, come_as}
use Rattle.journal_flows.specs.Gathering.{Gatherer, Sending, Journal, Loaded, sending_of, with_sending, with_flows}
use Rattle.journal_flows.specs.Gathering.{all_told, told_by, names, behind_event, parcel_of, loads_parcel, loads}
use Rattle.journal_flows.specs.Gathering.{sdus_read, holds, with_loaded, behind_new, resends, behind_again, all_come}
use Rattle.journal_flows.specs.Gathering.{sent_last, behind_landing, behind_record}
use Rattle.journal_flows.specs.Gathering.{behind_records, MayTake}

-- what two gather of flows is alike, whatever is told of them, and so are the PDUs that they read
pub record Agree (F G : Type 0) (g : Gatherer F) (h : Gatherer G) (kinds : List (Option Layout))
    (R : F → G → Type 0) : Type 0 where
  pub tells : (t : Told) (a : F) (f : G) → R a f → R (g.tells t a) (h.tells t f)
  pub reads : (a : F) (f : G) (from : Side) (one : Named) (octets : List ℕ) → R a f
      → parcel_of g kinds a from one octets ≡ parcel_of h kinds f from one octets

pub record Alike (F G : Type 0) (R : F → G → Type 0) (j : Journal F) (k : Journal G) : Type 0 where
  pub flows : R j.flows k.flows
  pub nb : j.nb ≡ k.nb
  pub ue : j.ue ≡ k.ue

all_alike : (F G : Type 0) (g : Gatherer F) (h : Gatherer G) (kinds : List (Option Layout)) (R : F → G → Type 0)
    → Agree F G g h kinds R → (ts : List Told) (a : F) (f : G) → R a f → R (all_told g ts a) (all_told h ts f)
all_alike F G g h kinds R w [] a f r = r
all_alike F G g h kinds R w (t ∷ ts) a f r =
    all_alike F G g h kinds R w ts (g.tells t a) (h.tells t f) (w.tells t a f r)

pub sending_alike : (F G : Type 0) (R : F → G → Type 0) (side : Side) (j : Journal F) (k : Journal G) → Alike F G R j k
    → sending_of side j ≡ sending_of side k
sending_alike F G R Nb j k s = s.nb
sending_alike F G R Ue j k s = s.ue

flows_alike : (F G : Type 0) (R : F → G → Type 0) (a : F) (f : G) (j : Journal F) (k : Journal G) → R a f
    → Alike F G R j k → Alike F G R (with_flows a j) (with_flows f k)
flows_alike F G R a f j k r s = record { flows = r; nb = s.nb; ue = s.ue }

with_alike : (F G : Type 0) (R : F → G → Type 0) (side : Side) (x y : Sending) (j : Journal F) (k : Journal G) → x ≡ y
    → Alike F G R j k → Alike F G R (with_sending side x j) (with_sending side y k)
with_alike F G R Nb x y j k e s = record { flows = s.flows; nb = e; ue = s.ue }
with_alike F G R Ue x y j k e s = record { flows = s.flows; nb = s.nb; ue = e }

-- ---- an event of an end

event_alike : (F G : Type 0) (g : Gatherer F) (h : Gatherer G) (kinds : List (Option Layout)) (R : F → G → Type 0)
    → Agree F G g h kinds R → (more : Bool) (side : Side) (event : Event) (j : Journal F) (k : Journal G)
    → Alike F G R j k → Alike F G R (behind_event g kinds more side event j) (behind_event h kinds more side event k)
event_alike F G g h kinds R w more side (events.Send lcid how sn) j k s =
    with_alike F G R side (names (record { lcid = lcid; how = how }) (sending_of side j))
    (names (record { lcid = lcid; how = how }) (sending_of side k)) j k
    (ap (names (record { lcid = lcid; how = how })) (sending_alike F G R side j k s)) s
event_alike F G g h kinds R w more side event j k s =
    record {
      flows = all_alike F G g h kinds R w (told_by kinds more side event) j.flows k.flows s.flows;
      nb = s.nb;
      ue = s.ue;
    }

-- ---- a new block

record LoadedAlike (F G : Type 0) (R : F → G → Type 0) (b : Loaded F) (c : Loaded G) : Type 0 where
  flows : R b.flows c.flows
  parcels : b.parcels ≡ c.parcels

load_alike : (F G : Type 0) (g : Gatherer F) (h : Gatherer G) (kinds : List (Option Layout)) (R : F → G → Type 0)
    → Agree F G g h kinds R → (from : Side) (how : How) (p : Option Parcel) (b : Loaded F) (c : Loaded G)
    → LoadedAlike F G R b c → LoadedAlike F G R (loads_parcel g from how p b) (loads_parcel h from how p c)
load_alike F G g h kinds R w from how None b c s = s
load_alike F G g h kinds R w from how (Some p) b c s = record {
  flows = all_alike F G g h kinds R w (written_as from how p) b.flows c.flows s.flows;
  parcels = ap (λ (ps : List Parcel). ps ++ p ∷ []) s.parcels;
}

loads_alike : (F G : Type 0) (g : Gatherer F) (h : Gatherer G) (kinds : List (Option Layout)) (R : F → G → Type 0)
    → Agree F G g h kinds R → (from : Side) (named : List Named) (sdus : List Sdu) (b : Loaded F) (c : Loaded G)
    → LoadedAlike F G R b c → LoadedAlike F G R (loads g kinds from named sdus b) (loads h kinds from named sdus c)
loads_alike F G g h kinds R w from (one ∷ named) (d ∷ sdus) b c s =
    let p = parcel_of h kinds c.flows from one d.octets in
    let q = parcel_of g kinds b.flows from one d.octets in
    loads_alike F G g h kinds R w from named sdus (loads_parcel g from one.how q b) (loads_parcel h from one.how p c)
    (subst (λ (r : Option Parcel). LoadedAlike F G R (loads_parcel g from one.how r b)
    (loads_parcel h from one.how p c)) (sym (w.reads b.flows c.flows from one d.octets s.flows))
    (load_alike F G g h kinds R w from one.how p b c s))
loads_alike F G g h kinds R w from [] sdus b c s = s
loads_alike F G g h kinds R w from (one ∷ named) [] b c s = s

loaded_alike : (F G : Type 0) (R : F → G → Type 0) (from : Side) (process : ℕ) (b : Loaded F) (c : Loaded G)
    (j : Journal F) (k : Journal G) → LoadedAlike F G R b c → Alike F G R j k
    → Alike F G R (with_loaded from process b j) (with_loaded from process c k)
loaded_alike F G R from process b c j k l s =
    with_alike F G R from (holds process b.parcels (sending_of from j)) (holds process c.parcels (sending_of from k))
    (with_flows b.flows j) (with_flows c.flows k)
    (ap (λ (ps : List Parcel). holds process ps (sending_of from j)) l.parcels
    ∙ ap (holds process c.parcels) (sending_alike F G R from j k s))
    (flows_alike F G R b.flows c.flows j k l.flows s)

new_alike : (F G : Type 0) (g : Gatherer F) (h : Gatherer G) (kinds : List (Option Layout)) (R : F → G → Type 0)
    → Agree F G g h kinds R → (direction : Direction) (process : ℕ) (octets : List ℕ) (j : Journal F) (k : Journal G)
    → Alike F G R j k
    → Alike F G R (behind_new g kinds direction process octets j) (behind_new h kinds direction process octets k)
new_alike F G g h kinds R w direction process octets j k s =
    let from = sender_of direction in
    let sdus = sdus_read (reading direction octets) in
    let b : Loaded F = record { flows = j.flows; parcels = [] } in
    let c : Loaded G = record { flows = k.flows; parcels = [] } in
    loaded_alike F G R (sender_of direction) process
    (loads g kinds from (sending_of from j).named sdus b)
    (loads h kinds from (sending_of from k).named sdus c) j k
    (subst (λ (x : Sending). LoadedAlike F G R
    (loads g kinds (sender_of direction) x.named (sdus_read (reading direction octets))
    (record { flows = j.flows; parcels = [] }))
    (loads h kinds (sender_of direction) (sending_of (sender_of direction) k).named
    (sdus_read (reading direction octets)) (record { flows = k.flows; parcels = [] })))
    (sym (sending_alike F G R (sender_of direction) j k s))
    (loads_alike F G g h kinds R w from (sending_of from k).named sdus b c
    (record { flows = s.flows; parcels = refl })))
    s

-- ---- a block that is sent again, and one that is got

again_alike : (F G : Type 0) (R : F → G → Type 0) (direction : Direction) (process : ℕ) (j : Journal F) (k : Journal G)
    → Alike F G R j k → Alike F G R (behind_again direction process j) (behind_again direction process k)
again_alike F G R direction process j k s =
    let from = sender_of direction in
    with_alike F G R (sender_of direction) (resends process (sending_of from j))
    (resends process (sending_of from k)) j k
    (ap (resends process) (sending_alike F G R from j k s)) s

come_alike : (F G : Type 0) (g : Gatherer F) (h : Gatherer G) (kinds : List (Option Layout)) (R : F → G → Type 0)
    → Agree F G g h kinds R → (from : Side) (ps : List Parcel) (a : F) (f : G) → R a f
    → R (all_come g from ps a) (all_come h from ps f)
come_alike F G g h kinds R w from [] a f r = r
come_alike F G g h kinds R w from (p ∷ ps) a f r =
    come_alike F G g h kinds R w from ps (all_told g (come_as from p) a) (all_told h (come_as from p) f)
    (all_alike F G g h kinds R w (come_as from p) a f r)

landing_alike : (F G : Type 0) (g : Gatherer F) (h : Gatherer G) (kinds : List (Option Layout)) (R : F → G → Type 0)
    → Agree F G g h kinds R → (direction : Direction) (j : Journal F) (k : Journal G) → Alike F G R j k
    → Alike F G R (behind_landing g direction j) (behind_landing h direction k)
landing_alike F G g h kinds R w direction j k s =
    let from = sender_of direction in
    record {
      flows =
          subst (λ (x : Sending). R (all_come g (sender_of direction) (sent_last x) j.flows)
          (all_come h (sender_of direction) (sent_last (sending_of (sender_of direction) k)) k.flows))
          (sym (sending_alike F G R (sender_of direction) j k s))
          (come_alike F G g h kinds R w from (sent_last (sending_of from k)) j.flows k.flows s.flows);
      nb = s.nb;
      ue = s.ue;
    }

-- ---- a record

pub record_alike : (F G : Type 0) (g : Gatherer F) (h : Gatherer G) (kinds : List (Option Layout))
    (R : F → G → Type 0) → Agree F G g h kinds R → (more : Bool) (one : Record) (j : Journal F) (k : Journal G)
    → Alike F G R j k → Alike F G R (behind_record g kinds more one j) (behind_record h kinds more one k)
record_alike F G g h kinds R w more (records.Of side event) j k s = event_alike F G g h kinds R w more side event j k s
record_alike F G g h kinds R w more (records.Block direction process true version octets) j k s =
    new_alike F G g h kinds R w direction process octets j k s
record_alike F G g h kinds R w more (records.Block direction process false version octets) j k s =
    again_alike F G R direction process j k s
record_alike F G g h kinds R w more (records.Air direction what heard) j k s = by (is_got what)
  where
    by : (b : Bool) → Alike F G R (if b then behind_landing g direction j else j)
        (if b then behind_landing h direction k else k)
    by true = landing_alike F G g h kinds R w direction j k s
    by false = s
record_alike F G g h kinds R w more one j k s = s

pub records_alike : (F G : Type 0) (g : Gatherer F) (h : Gatherer G) (kinds : List (Option Layout))
    (R : F → G → Type 0) → Agree F G g h kinds R → (may_take : MayTake) (past : List Group)
    (before told : List Record) (j : Journal F) (k : Journal G) → Alike F G R j k
    → Alike F G R (behind_records g may_take past kinds before told j)
    (behind_records h may_take past kinds before told k)
records_alike F G g h kinds R w may_take past before [] j k s = s
records_alike F G g h kinds R w may_take past before (one ∷ told) j k s =
    let more = may_take past before one in
    records_alike F G g h kinds R w may_take past (one ∷ before) told (behind_record g kinds more one j)
    (behind_record h kinds more one k) (record_alike F G g h kinds R w more one j k s)
