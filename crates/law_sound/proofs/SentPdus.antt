-- The PDUs of a new block on a channel, by what is kept of the `send` records before it: they carry what the block
-- carries on the channel, and are named as the events of the channel name them.
use Rattle.std.proofs.Common.{◌≡◌, ℕ, ◌==◌, if◌then◌else◌, Bool, true, false, List, [], ◌∷◌, ◌++◌, map, Option}
use Rattle.std.proofs.Common.{Ok, refl, ap, sym, ◌∙◌}
use Rattle.bearer_types.specs.declared.event.Event.{Event}
use Rattle.bearer_types.specs.declared.event.Event.TheVariants as events
use Rattle.l2_types.specs.declared.event.How.{How}
use Rattle.mac_pdu.specs.declared.builder.Sdu.{Sdu}
use Rattle.mac_pdu.specs.declared.item.Direction.{Direction}
use Rattle.mac_pdu.specs.Items.{MacItem}
use Rattle.mac_pdu.specs.Reading.{reading}
use Rattle.promises.specs.Events.{is_on, told_on}
use Rattle.promises.specs.Names.{SentPdu as ToldPdu, sent_pdus, Mode, AreNamed}
use Rattle.promises.specs.Pdus.{pdus_read, carried}
use Rattle.promises.specs.RightForm.{sdus_in}
use Rattle.journal_flows.specs.declared.sending.Named.{Named}
use Rattle.journal_flows.specs.Gathering.{sdus_read}
use Rattle.journal_sent.specs.declared.checker.NamedPdu.{NamedPdu}
use Rattle.law_sent.specs.Channels.{SentPdu, pdus_on}
use Rattle.law_sent.proofs.ChannelsNamed.{as_named}
use Rattle.law_sound.specs.LoadLaws.{name_of}
use Rattle.law_sound.proofs.Blocks.{pdus_are}
use Rattle.law_sound.proofs.Loading.{pdus_of}
use Rattle.law_sound.proofs.SentNames.{hows_in}

-- ---- how the PDUs of a channel are told of

abbrev pub hows_on : ℕ → List ToldPdu → List How
hows_on l [] = []
hows_on l (s ∷ sent) = (if s.lcid == l then s.how ∷ [] else []) ++ hows_on l sent

-- an event that tells of none
other_hows : (l : ℕ) (b : Bool) (e : Event) (es : List Event)
    → ((rest : List Event) → sent_pdus (e ∷ rest) ≡ sent_pdus rest)
    → hows_in (told_on l es) ≡ hows_on l (sent_pdus es)
    → hows_in (if b then e ∷ told_on l es else told_on l es) ≡ hows_on l (sent_pdus (e ∷ es))
other_hows l true e es none same =
    ap (map (λ (n : ToldPdu). n.how)) (none (told_on l es)) ∙ same ∙ ap (hows_on l) (sym (none es))
other_hows l false e es none same = same ∙ ap (hows_on l) (sym (none es))

send_hows : (l lcid : ℕ) (how : How) (sn : ℕ) (b : Bool) (es : List Event)
    → hows_in (told_on l es) ≡ hows_on l (sent_pdus es)
    → hows_in (if b then events.Send lcid how sn ∷ told_on l es else told_on l es)
    ≡ (if b then how ∷ [] else []) ++ hows_on l (sent_pdus es)
send_hows l lcid how sn true es same = ap (λ (hs : List How). how ∷ hs) same
send_hows l lcid how sn false es same = same

one_hows : (l : ℕ) (e : Event) (es : List Event) → hows_in (told_on l es) ≡ hows_on l (sent_pdus es)
    → hows_in (told_on l (e ∷ es)) ≡ hows_on l (sent_pdus (e ∷ es))
one_hows l (events.Send lcid how sn) es same = send_hows l lcid how sn (lcid == l) es same
one_hows l e es same = other_hows l (is_on l e) e es (λ rest. refl) same

pub hows_told : (l : ℕ) (es : List Event) → hows_in (told_on l es) ≡ hows_on l (sent_pdus es)
hows_told l [] = refl
hows_told l (e ∷ es) = one_hows l e es (hows_told l es)

-- ---- one by one

module _ (modes : ℕ → Option Mode) (l : ℕ) where
  same_name : (n : NamedPdu) (s : ToldPdu) (named : List NamedPdu) (sent : List ToldPdu)
      → as_named (n ∷ named) ≡ map name_of (s ∷ sent) → n.how ≡ s.how
  same_name n s named sent same =
      let first : record { lcid = n.lcid; how = n.how } ≡ name_of s = cc in ap (λ (x : Named). x.how) first

  same_names : (n : NamedPdu) (s : ToldPdu) (named : List NamedPdu) (sent : List ToldPdu)
      → as_named (n ∷ named) ≡ map name_of (s ∷ sent) → as_named named ≡ map name_of sent
  same_names n s named sent same = cc

  of_one : {A : Type 0} (of : SentPdu → A) (here : Bool) (p : SentPdu) (ps : List SentPdu) (xs : List A)
      → map of ps ≡ xs → map of ((if here then p ∷ [] else []) ++ ps) ≡ (if here then of p ∷ [] else []) ++ xs
  of_one of true p ps xs same = ap (λ zs. of p ∷ zs) same
  of_one of false p ps xs same = same

  all_are : (named : List NamedPdu) (sent : List ToldPdu) (sdus : List Sdu) → AreNamed modes sent sdus
      → as_named named ≡ map name_of sent
      → (map (λ (x : SentPdu). x.octets) (pdus_on l named sdus) ≡ pdus_of l sdus)
      × (map (λ (x : SentPdu). x.how) (pdus_on l named sdus) ≡ hows_on l sent)
  all_are [] [] [] are same = (refl, refl)
  all_are [] [] (d ∷ sdus) are same = absurd are
  all_are [] (s ∷ sent) sdus are same = absurd cc
  all_are (n ∷ named) [] sdus are same = absurd cc
  all_are (n ∷ named) (s ∷ sent) [] are same = absurd are
  all_are (n ∷ named) (s ∷ sent) (d ∷ sdus) are same =
      let p : SentPdu = record { how = n.how; passed = n.sdu; octets = d.octets } in
      let ps = pdus_on l named sdus in
      let more = all_are named sent sdus are.2 (same_names n s named sent same) in (
        of_one (λ (x : SentPdu). x.octets) (d.lcid == l) p ps (pdus_of l sdus) more.0,
        of_one (λ (x : SentPdu). x.how) (d.lcid == l) p ps (hows_on l sent) more.1
            ∙ ap (λ (h : How). (if d.lcid == l then h ∷ [] else []) ++ hows_on l sent) (same_name n s named sent same)
            ∙ ap (λ (lcid : ℕ). (if lcid == l then s.how ∷ [] else []) ++ hows_on l sent) are.0,
      )

-- ---- of a block

pub record AreOnChannel (l : ℕ) (direction : Direction) (octets : List ℕ) (sent : List ToldPdu) (ps : List SentPdu)
    : Type 0 where
  pub octets_are : map (λ (x : SentPdu). x.octets) ps ≡ carried l direction octets
  pub hows_are : map (λ (x : SentPdu). x.how) ps ≡ hows_on l sent

-- what is read in a block is what its `send` records name
pub record ReadsAs (direction : Direction) (octets : List ℕ) (sent : List ToldPdu) : Type 0 where
  pub modes : ℕ → Option Mode
  pub items : List MacItem
  pub read : reading direction octets ≡ Ok items
  pub named : AreNamed modes sent (sdus_in items)

pub on_channel : (l : ℕ) (direction : Direction) (octets : List ℕ) (sent : List ToldPdu) (named : List NamedPdu)
    → ReadsAs direction octets sent → as_named named ≡ map name_of sent
    → AreOnChannel l direction octets sent (pdus_on l named (sdus_read (reading direction octets)))
on_channel l direction octets sent named r same =
    let read : sdus_read (reading direction octets) ≡ sdus_in r.items = ap sdus_read r.read in
    let are = all_are r.modes l named sent (sdus_in r.items) r.named same in
    record {
      octets_are = ap (λ (sdus : List Sdu). map (λ (x : SentPdu). x.octets) (pdus_on l named sdus)) read
          ∙ are.0
          ∙ sym (ap (pdus_read l) r.read ∙ pdus_are l r.items);
      hows_are = ap (λ (sdus : List Sdu). map (λ (x : SentPdu). x.how) (pdus_on l named sdus)) read
          ∙ are.1;
    }

-- one that carries nothing has none
pub none_on_channel : (l : ℕ) (direction : Direction) (octets : List ℕ) (sent : List ToldPdu) (ps : List SentPdu)
    → AreOnChannel l direction octets sent ps → carried l direction octets ≡ [] → ps ≡ []
none_on_channel l direction octets sent [] h none = refl
none_on_channel l direction octets sent (p ∷ ps) h none =
    let no : p.octets ∷ map (λ (x : SentPdu). x.octets) ps ≡ [] = h.octets_are ∙ none in absurd cc
