-- What is shown of a block tells of no SDU, no flight and no run.
use Rattle.std.proofs.Common.{◌≡◌, ℕ, Bool, true, false, Option, List, [], ◌∷◌}
use Rattle.std.proofs.Common.{length, ◌||◌, ◌∙◌, refl, ap}
use Rattle.std.specs.List.{filter, AllByRecursion}
use Rattle.std.proofs.lemmas.Bool.{false≢true}
use Rattle.air_record.specs.declared.record.Record.{Record}
use Rattle.air_record.specs.declared.record.Record.TheVariants as records
use Rattle.l2_types.specs.declared.side.Side.{Side}
use Rattle.l2_types.specs.declared.side.Side.TheVariants.{Nb, Ue}
use Rattle.mac_pdu.specs.declared.item.Direction.{Direction}
use Rattle.mac_pdu.specs.Reading.{reading}
use Rattle.pdu_show.specs.declared.kinds.Layout.{Layout}
use Rattle.pdu_show.specs.Show.{block_shown}
use Rattle.air_link.specs.Link.{Link}
use Rattle.air_link.specs.Downlink.{shows}
use Rattle.law_run.specs.AnyCalls.Counts.{ups, loopeds, is_fail, gives_up}
use Rattle.promises.specs.Records.{is_up, is_looped, is_of_run, is_of_air, event_of, events_of, is_shown}
use Rattle.promises.specs.Records.{is_of_building}
use Rattle.law_run.specs.AnyCalls.Told.{Adds}
use Rattle.law_run.proofs.AnyCalls.Adding.{same_grows, same_marked}
use Rattle.law_run.proofs.AnyCalls.Returning.{IsSilent}
use Rattle.promises.proofs.ShownBlocks.{AllShown, block_shows}

-- a record that is counted nowhere, and tells of no end
record IsStill (one : Record) : Type 0 where
  no_up : (side : Side) (lcid : ℕ) → is_up side lcid one ≡ false
  no_loop : (lcid : ℕ) → is_looped lcid one ≡ false
  no_run : is_of_run one ≡ false
  not_of_air : is_of_air one ≡ false
  no_event : (side : Side) → event_of side one ≡ []

still : (one : Record) → is_shown one ≡ true → IsStill one
still records.MacFront h = record {
  no_up = λ s k. refl;
  no_loop = λ k. refl;
  no_run = refl;
  not_of_air = refl;
  no_event = λ s. refl;
}
still (records.MacSdu lcid len) h =
    record { no_up = λ s k. refl; no_loop = λ k. refl; no_run = refl; not_of_air = refl; no_event = λ s. refl }
still (records.MacPad octets) h =
    record { no_up = λ s k. refl; no_loop = λ k. refl; no_run = refl; not_of_air = refl; no_event = λ s. refl }
still (records.MacControl control) h =
    record { no_up = λ s k. refl; no_loop = λ k. refl; no_run = refl; not_of_air = refl; no_event = λ s. refl }
still (records.RlcTm len) h = record {
  no_up = λ s k. refl;
  no_loop = λ k. refl;
  no_run = refl;
  not_of_air = refl;
  no_event = λ s. refl;
}
still (records.RlcUm sn fi lens) h =
    record { no_up = λ s k. refl; no_loop = λ k. refl; no_run = refl; not_of_air = refl; no_event = λ s. refl }
still (records.RlcAm sn poll fi lens) h =
    record { no_up = λ s k. refl; no_loop = λ k. refl; no_run = refl; not_of_air = refl; no_event = λ s. refl }
still (records.RlcSeg sn poll fi last so lens) h =
    record { no_up = λ s k. refl; no_loop = λ k. refl; no_run = refl; not_of_air = refl; no_event = λ s. refl }
still (records.RlcStatus ack nacks) h =
    record { no_up = λ s k. refl; no_loop = λ k. refl; no_run = refl; not_of_air = refl; no_event = λ s. refl }
still (records.PdcpData sn len) h =
    record { no_up = λ s k. refl; no_loop = λ k. refl; no_run = refl; not_of_air = refl; no_event = λ s. refl }
still (records.PdcpSrb sn len tag) h =
    record { no_up = λ s k. refl; no_loop = λ k. refl; no_run = refl; not_of_air = refl; no_event = λ s. refl }
still (records.PdcpReport fms bitmap) h =
    record { no_up = λ s k. refl; no_loop = λ k. refl; no_run = refl; not_of_air = refl; no_event = λ s. refl }
still (records.BadMac fault) h =
    record { no_up = λ s k. refl; no_loop = λ k. refl; no_run = refl; not_of_air = refl; no_event = λ s. refl }
still (records.BadRlc fault) h =
    record { no_up = λ s k. refl; no_loop = λ k. refl; no_run = refl; not_of_air = refl; no_event = λ s. refl }
still (records.BadPdcp fault) h =
    record { no_up = λ s k. refl; no_loop = λ k. refl; no_run = refl; not_of_air = refl; no_event = λ s. refl }
still (records.Line number line) h = absurd (false≢true h)
still (records.Tti tti) h = absurd (false≢true h)
still records.Sleep h = absurd (false≢true h)
still (records.Of side event) h = absurd (false≢true h)
still (records.Block direction process fresh rv octets) h = absurd (false≢true h)
still (records.Air direction what heard) h = absurd (false≢true h)
still (records.Refused side lcid why) h = absurd (false≢true h)
still (records.Looped lcid octets) h = absurd (false≢true h)
still (records.Drained rounds) h = absurd (false≢true h)
still (records.Sum direction lcid submitted delivered state) h = absurd (false≢true h)
still (records.Shown number direction len) h = absurd (false≢true h)

-- ---- all that is shown

none_kept : (test : Record → Bool) → ((one : Record) → is_shown one ≡ true → test one ≡ false) → (rs : List Record)
    → AllShown rs → filter test rs ≡ []
none_kept test h [] a = refl
none_kept test h (one ∷ more) a = rw (h one a.0) (none_kept test h more a.1)

-- ---- a block is shown

none_counted : (test : Record → Bool) (rs : List Record) → ((one : Record) → is_shown one ≡ true → test one ≡ false)
    → AllShown rs → length (filter test rs) ≡ 0
none_counted test rs h a = ap length (none_kept test h rs a)

shown_unfailing : (side : Side) (lcid : ℕ) (one : Record) → is_shown one ≡ true → is_fail side lcid one ≡ false
shown_unfailing side lcid (records.Of s event) h = absurd (false≢true h)
shown_unfailing side lcid one h = refl

none_fails : (side : Side) (lcid : ℕ) (rs : List Record) → AllShown rs → gives_up side lcid rs ≡ false
none_fails side lcid [] a = refl
none_fails side lcid (one ∷ rs) a =
    ap (λ (b : Bool). b || gives_up side lcid rs) (shown_unfailing side lcid one a.0) ∙ none_fails side lcid rs a.1

pub shows_adds : (direction : Direction) (block : List ℕ) (l : Link) → Adds [] l (shows direction block l)
shows_adds direction block l =
    let rs = block_shown direction l.kinds block in
    let a = block_shows l.kinds (reading direction block) in
    record {
      more = rs;
      out_is = refl;
      ttis_is = refl;
      told = record {
        nb_delivered =
            same_grows (λ k. ups Nb k rs) l.up.delivered l.up.delivered refl
            (λ k. none_counted (is_up Nb k) rs (λ one h. (still one h).no_up Nb k) a);
        ue_delivered =
            same_grows (λ k. ups Ue k rs) l.down.delivered l.down.delivered refl
            (λ k. none_counted (is_up Ue k) rs (λ one h. (still one h).no_up Ue k) a);
        nb_submitted = refl;
        ue_submitted =
            same_grows (λ k. loopeds k rs) l.up.submitted l.up.submitted refl
            (λ k. none_counted (is_looped k) rs (λ one h. (still one h).no_loop k) a);
        nb_failed = same_marked (λ k. gives_up Nb k rs) l.down.failed l.down.failed refl (λ k. none_fails Nb k rs a);
        ue_failed = same_marked (λ k. gives_up Ue k rs) l.up.failed l.up.failed refl (λ k. none_fails Ue k rs a);
        flown_is = none_kept is_of_air (λ one h. (still one h).not_of_air) rs a;
        none_of_run = none_kept is_of_run (λ one h. (still one h).no_run) rs a;
      };
    }

shown_is_built : (one : Record) → is_shown one ≡ true → is_of_building one ≡ true
shown_is_built records.MacFront h = refl
shown_is_built (records.MacSdu lcid len) h = refl
shown_is_built (records.MacPad octets) h = refl
shown_is_built (records.MacControl control) h = refl
shown_is_built (records.RlcTm len) h = refl
shown_is_built (records.RlcUm sn fi lens) h = refl
shown_is_built (records.RlcAm sn poll fi lens) h = refl
shown_is_built (records.RlcSeg sn poll fi last so lens) h = refl
shown_is_built (records.RlcStatus ack nacks) h = refl
shown_is_built (records.PdcpData sn len) h = refl
shown_is_built (records.PdcpSrb sn len tag) h = refl
shown_is_built (records.PdcpReport fms bitmap) h = refl
shown_is_built (records.BadMac fault) h = refl
shown_is_built (records.BadRlc fault) h = refl
shown_is_built (records.BadPdcp fault) h = refl
shown_is_built (records.Line number line) h = absurd (false≢true h)
shown_is_built (records.Tti tti) h = absurd (false≢true h)
shown_is_built records.Sleep h = absurd (false≢true h)
shown_is_built (records.Of side event) h = absurd (false≢true h)
shown_is_built (records.Block direction process fresh rv octets) h = absurd (false≢true h)
shown_is_built (records.Air direction what heard) h = absurd (false≢true h)
shown_is_built (records.Refused side lcid why) h = absurd (false≢true h)
shown_is_built (records.Looped lcid octets) h = absurd (false≢true h)
shown_is_built (records.Drained rounds) h = absurd (false≢true h)
shown_is_built (records.Sum direction lcid submitted delivered state) h = absurd (false≢true h)
shown_is_built (records.Shown number direction len) h = absurd (false≢true h)

all_kept : (rs : List Record) → AllShown rs → filter is_of_building rs ≡ rs
all_kept [] a = refl
all_kept (one ∷ more) a = rw (shown_is_built one a.0) (ap (λ (x : List Record). one ∷ x) (all_kept more a.1))

pub block_is_shown : (direction : Direction) (kinds : List (Option Layout)) (block : List ℕ)
    → filter is_of_building (block_shown direction kinds block) ≡ block_shown direction kinds block
block_is_shown direction kinds block =
    all_kept (block_shown direction kinds block) (block_shows kinds (reading direction block))

none_told : (side : Side) (rs : List Record) → AllShown rs → events_of side rs ≡ []
none_told side [] a = refl
none_told side (one ∷ more) a = rw ((still one a.0).no_event side) (none_told side more a.1)

pub shown_untold : (side : Side) (direction : Direction) (kinds : List (Option Layout)) (block : List ℕ)
    → events_of side (block_shown direction kinds block) ≡ []
shown_untold side direction kinds block =
    none_told side (block_shown direction kinds block) (block_shows kinds (reading direction block))

-- ---- nothing that is shown tells of an SDU of the test loop

shown_is_silent : (one : Record) → is_shown one ≡ true → IsSilent one
shown_is_silent (records.Of side event) h = absurd (false≢true h)
shown_is_silent (records.Looped lcid octets) h = absurd (false≢true h)
shown_is_silent one h = record { none_back = refl; none_due = λ mode. refl; none_lost = λ k. refl }

all_silent : (rs : List Record) → AllShown rs → AllByRecursion IsSilent rs
all_silent [] a = tt
all_silent (one ∷ more) a = (shown_is_silent one a.0, all_silent more a.1)

pub block_is_silent : (direction : Direction) (kinds : List (Option Layout)) (block : List ℕ)
    → AllByRecursion IsSilent (block_shown direction kinds block)
block_is_silent direction kinds block =
    all_silent (block_shown direction kinds block) (block_shows kinds (reading direction block))

pub block_hands_up_none : (direction : Direction) (kinds : List (Option Layout)) (block : List ℕ) (side : Side)
    (lcid : ℕ) → filter (is_up side lcid) (block_shown direction kinds block) ≡ []
block_hands_up_none direction kinds block side lcid =
    none_kept (is_up side lcid) (λ one h. (still one h).no_up side lcid) (block_shown direction kinds block)
    (block_shows kinds (reading direction block))

pub block_is_of_no_air : (direction : Direction) (kinds : List (Option Layout)) (block : List ℕ)
    → filter is_of_air (block_shown direction kinds block) ≡ []
block_is_of_no_air direction kinds block =
    none_kept is_of_air (λ one h. (still one h).not_of_air) (block_shown direction kinds block)
    (block_shows kinds (reading direction block))
