-- The records before a block name the PDUs that it carries.
use Rattle.std.proofs.Common.{◌≡◌, ℕ, ◌==◌, if◌then◌else◌, Bool, true, false, List, [], ◌∷◌, ◌++◌, map}
use Rattle.std.proofs.Common.{Option, Some, Result, Ok, refl, ap, sym, subst, ◌∙◌}
use Rattle.std.specs.List.{AllByRecursion}
use Rattle.std.proofs.lemmas.Bool.{eqb-true}
use Rattle.l2_types.specs.declared.event.How.{How}
use Rattle.l2_types.specs.declared.event.How.TheVariants as hows
use Rattle.mac_pdu.specs.declared.builder.Sdu.{Sdu}
use Rattle.mac_pdu.specs.Items.{MacItem}
use Rattle.mac_pdu.specs.declared.fault.MacRefusal.{MacRefusal}
use Rattle.pdcp_pdu.specs.declared.pdu.PdcpKind.{PdcpKind}
use Rattle.rlc_pdu.specs.Pdus.{AmdPdu, StatusPdu, Payload, Status as Control}
use Rattle.rlc_pdu.specs.Reading.{am_at}
use Rattle.promises.specs.Names.{SentPdu, Mode, Acknowledged, IsNamed, AreNamed}
use Rattle.promises.specs.Pdus.{pdus_read}
use Rattle.promises.specs.RightForm.{sdus_in, known_mode, mode_of}
use Rattle.promises.specs.SentNumbers.{IsNumber, IsWritten, next_by, AreNumbers}
use Rattle.journal_flows.specs.Gathering.{sdus_read}
use Rattle.law_deliver.specs.AmFlow.Carrying.{CarriedPdu, Numbered, Reported, pdu_octets}
use Rattle.law_sound.specs.HearingLaws.{HasOneData}
use Rattle.law_sound.specs.LoadLaws.{named_on, AreNamedAs, name_of, NewBlocksAreNamed}
use Rattle.law_sound.specs.NumberLaws.{IsReadAs, IsNamedAs}
use Rattle.law_sound.proofs.Blocks.{pdus_are}
use Rattle.law_sound.proofs.CarriedBlocks.{tail_one, last_alone}
use Rattle.law_sound.proofs.LoadedBlocks.{none_named}
use Rattle.law_sound.proofs.Loading.{pdus_of}

-- ---- one PDU

-- octets are read in one way
two_ways : (octets : List ℕ) (pdu : AmdPdu) (status : StatusPdu) → am_at octets ≡ Ok (Payload pdu)
    → am_at octets ≡ Ok (Control status) → ⊥
two_ways octets pdu status p q = let no : Ok (Payload pdu) ≡ Ok (Control status) = sym p ∙ q in cc

same_sn : (octets : List ℕ) (x y : AmdPdu) → am_at octets ≡ Ok (Payload x) → am_at octets ≡ Ok (Payload y) → x.sn ≡ y.sn
same_sn octets x y p q =
    let same : Ok (Payload x) ≡ Ok (Payload y) = sym p ∙ q in
    let is : x ≡ y = cc in
    ap (λ (z : AmdPdu). z.sn) is

named_as : (kind : PdcpKind) (how : How) (sn next : ℕ) (p : CarriedPdu) → IsReadAs p
    → IsNamed (Some (Acknowledged kind)) how sn (pdu_octets p) → IsNumber how next sn → IsNamedAs how next p
named_as kind hows.New sn next (Numbered c) read named number = (
  tt,
  λ pdu e. same_sn c.octets pdu named.pdu e named.read ∙ (named.number ∙ number),
)
named_as kind hows.Re sn next (Numbered c) read named number = (
  tt,
  λ pdu e. subst (IsWritten next) (sym (same_sn c.octets pdu named.pdu e named.read ∙ named.number)) number,
)
named_as kind hows.Status sn next (Numbered c) read named number =
    absurd (two_ways c.octets read.0 _ read.1 named.read)
named_as kind hows.Tm sn next (Numbered c) read named number = absurd named
named_as kind hows.New sn next (Reported r) read named number =
    absurd (two_ways r.octets named.pdu read.0 named.read read.1)
named_as kind hows.Re sn next (Reported r) read named number =
    absurd (two_ways r.octets named.pdu read.0 named.read read.1)
named_as kind hows.Status sn next (Reported r) read named number = refl
named_as kind hows.Tm sn next (Reported r) read named number = absurd named

-- ---- PDU by PDU

module _ (modes : ℕ → Option Mode) (kind : PdcpKind) (l : ℕ) (here : modes l ≡ Some (Acknowledged kind))
    (sent : List SentPdu) (sdus : List Sdu) where
  abbrev Names : Type 0
  Names = (next : ℕ) (pdus : List CarriedPdu) → AreNumbers l next sent → pdus_of l sdus ≡ map pdu_octets pdus
      → AllByRecursion IsReadAs pdus → HasOneData (map pdu_octets pdus)
      → AreNamedAs next (named_on l (map name_of sent) sdus) pdus

  -- behind one of the channel
  rest_names : Names → (how : How) (next : ℕ) (p : CarriedPdu) (ps : List CarriedPdu) → IsReadAs p
      → IsNamedAs how next p → AreNumbers l (next_by how next) sent → pdus_of l sdus ≡ map pdu_octets ps
      → AllByRecursion IsReadAs ps → HasOneData (map pdu_octets (p ∷ ps))
      → AreNamedAs next (named_on l (map name_of sent) sdus) ps
  rest_names more how next (Reported r) ps read named numbers same reads one =
      more next ps (subst (λ (y : How). AreNumbers l (next_by y next) sent) named numbers) same reads
      (tail_one r.octets (map pdu_octets ps) one.before one.behind one.are one.none one.one)
  rest_names more how next (Numbered c) [] read named numbers same reads one =
      none_named (next_by how next) next (named_on l (map name_of sent) sdus)
      (more (next_by how next) [] numbers same tt
      (tail_one c.octets [] one.before one.behind one.are one.none one.one))
  rest_names more how next (Numbered c) (q ∷ ps) read named numbers same reads one =
      let last : map pdu_octets (q ∷ ps) ≡ [] =
      last_alone c.octets (map pdu_octets (q ∷ ps)) one.before one.behind one.are one.none one.one
      (λ none. none read.0 read.1) in
      absurd cc

  one_named : Names → (s : SentPdu) (d : Sdu) (t : Bool) → (s.lcid == l) ≡ t → (next : ℕ) (pdus : List CarriedPdu)
      → (t ≡ true → IsNamed (Some (Acknowledged kind)) s.how s.sn d.octets)
      → (t ≡ true → IsNumber s.how next s.sn)
      → AreNumbers l (if t then next_by s.how next else next) sent
      → (if t then d.octets ∷ [] else []) ++ pdus_of l sdus ≡ map pdu_octets pdus
      → AllByRecursion IsReadAs pdus → HasOneData (map pdu_octets pdus)
      → AreNamedAs next ((if t then record { how = s.how; octets = d.octets } ∷ [] else [])
      ++ named_on l (map name_of sent) sdus) pdus
  one_named more s d false is next pdus named number numbers same reads one = more next pdus numbers same reads one
  one_named more s d true is next [] named number numbers same reads one = absurd cc
  one_named more s d true is next (p ∷ ps) named number numbers same reads one =
      let octets : d.octets ≡ pdu_octets p = cc in
      let rest : pdus_of l sdus ≡ map pdu_octets ps = cc in
      let as' : IsNamedAs s.how next p =
      named_as kind s.how s.sn next p reads.0
      (subst (IsNamed (Some (Acknowledged kind)) s.how s.sn) octets (named refl)) (number refl) in
      (octets, as', rest_names more s.how next p ps reads.0 as' numbers rest reads.1 one)

all_named : (modes : ℕ → Option Mode) (kind : PdcpKind) (l : ℕ) (here : modes l ≡ Some (Acknowledged kind))
    (sent : List SentPdu) (sdus : List Sdu) → AreNamed modes sent sdus → Names modes kind l here sent sdus
all_named modes kind l here [] [] named next [] numbers same reads one = tt
all_named modes kind l here [] [] named next (p ∷ ps) numbers same reads one = absurd cc
all_named modes kind l here (s ∷ sent) (d ∷ sdus) named next pdus numbers same reads one =
    let at : d.lcid ≡ s.lcid = named.0 in
    one_named modes kind l here sent sdus
    (λ n ps x y z w. all_named modes kind l here sent sdus named.2 n ps x y z w) s d (s.lcid == l) refl next pdus
    (λ is. subst (λ (m : Option Mode). IsNamed m s.how s.sn d.octets) (ap modes (eqb-true s.lcid l is) ∙ here) named.1)
    (λ is. numbers.0 (eqb-true s.lcid l is)) numbers.1
    (ap (λ (n : ℕ). (if n == l then d.octets ∷ [] else []) ++ pdus_of l sdus) (sym at) ∙ same) reads one
all_named modes kind l here [] (d ∷ sdus) named next pdus numbers same reads one = absurd named
all_named modes kind l here (s ∷ sent) [] named next pdus numbers same reads one = absurd named

pub new_blocks_are_named : NewBlocksAreNamed
new_blocks_are_named kinds kind direction octets l next sent pdus here carries numbers same reads one =
    let read = carries.read in
    subst (λ (r : Result (List MacItem) MacRefusal). AreNamedAs next (named_on l (map name_of sent) (sdus_read r)) pdus)
    (sym read)
    (all_named (mode_of kinds) kind l (ap known_mode here) sent (sdus_in carries.items) carries.named next pdus numbers
    (sym (pdus_are l carries.items) ∙ (ap (pdus_read l) (sym read) ∙ same)) reads one)
