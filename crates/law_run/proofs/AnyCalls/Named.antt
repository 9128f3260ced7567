-- What is shown of a new block shows the PDUs that are told of.
use Rattle.std.proofs.Common.{◌≡◌, ◌<◌, ◌≤◌, ℕ, zero, suc, Bool, true, false, Option, Some, None, Result, Ok, Err, List}
use Rattle.std.proofs.Common.{[], ◌∷◌, ◌++◌, length, map, replicate, refl, ap, sym, subst, ◌∙◌, arith, ◌^◌, inl, inr}
use Rattle.std.proofs.Common.{append-nil}
use Rattle.std.specs.Prelude.{slice_index_or}
use Rattle.std.specs.List.{AllByRecursion, filter}
use Rattle.std.proofs.lemmas.List.Elements.{filter-append}
use Rattle.air_record.specs.declared.record.Record.{Record}
use Rattle.air_record.specs.declared.record.Record.TheVariants as records
use Rattle.harq.specs.declared.sender.Order.{Order}
use Rattle.harq.specs.declared.sender.Visit.TheVariants.{New}
use Rattle.l2_node.specs.Building.{visit, visited, building}
use Rattle.bearer_types.specs.Sides.{sent_by}
use Rattle.l2_node.specs.Writing.{new_block}
use Rattle.l2_types.specs.declared.event.How.{How}
use Rattle.l2_types.specs.declared.event.How.TheVariants as how
use Rattle.l2_types.specs.declared.side.Side.{Side}
use Rattle.mac_pdu.specs.declared.builder.Sdu.{Sdu}
use Rattle.mac_pdu.specs.declared.item.Bsr.{Bsr}
use Rattle.mac_pdu.specs.Items.{front, padding, sdu_item}
use Rattle.law_node.specs.Blocks.{report, all_sdus}
use Rattle.promises.specs.Built.{reported, block_told}
use Rattle.law_node.specs.Calls.{Call as EndCall, AreGiven, reached}
use Rattle.law_node.specs.Names.{modes_of}
use Rattle.promises.specs.Names.{SentPdu, sent_pdus, IsData, IsPdcp, whole_sdus, IsUmd, IsAmd, Mode, Transparent}
use Rattle.promises.specs.Names.{Unacknowledged, Acknowledged, IsNamed, AreNamed}
use Rattle.law_node.proofs.Blocks.{has_what_was_written}
use Rattle.law_node.proofs.Naming.{names_what_it_sends}
use Rattle.pdcp_pdu.specs.declared.pdu.PdcpKind.{PdcpKind}
use Rattle.pdcp_pdu.specs.declared.pdu.PdcpKind.TheVariants as pdcp
use Rattle.pdcp_pdu.specs.declared.pdu.PdcpRefusal.{PdcpRefusal}
use Rattle.pdcp_pdu.specs.Pdus.{UserPdu, Sdu as DataSdu, Report, SrbPdu}
use Rattle.pdcp_pdu.specs.Reading.{user_at, srb_at}
use Rattle.pdu_show.specs.declared.kinds.Layout.{Layout}
use Rattle.pdu_show.specs.declared.kinds.Layout.TheVariants as layouts
use Rattle.pdu_show.specs.Show.{user_shown, srb_shown, pdcp_shown, begins, ends, whole, wholes_shown, um_shown}
use Rattle.pdu_show.specs.Show.{amd_shown, am_shown, rlc_shown, item_shown, items_shown, shown_by, block_shown}
use Rattle.rlc_pdu.specs.declared.pdu.Segment.{Segment}
use Rattle.bearer_types.specs.declared.event.Event.{Event}
use Rattle.bearer_types.specs.declared.event.Event.TheVariants as events
use Rattle.promises.specs.Events.{TellNoLoop, is_of_writing}
use Rattle.law_node.proofs.Pieces.{whole as whole_in, whole_is}
use Rattle.law_run.specs.AnyCalls.Ends.{built_told}
use Rattle.promises.specs.Records.{events_of}
use Rattle.promises.specs.Shown.{Shown, sdus_shown, pdus_shown, is_bad, ShowsData, IsShownSdu, AreShownSdus, amd_record}
use Rattle.promises.specs.Shown.{sdus_of, ShowsAmd, IsShownAs, AreShown, IsKnownAs, AreKnown, IsShownBlock}
use Rattle.law_run.proofs.AnyCalls.Blocks.{reached_whole, visited_whole, sends_kept, block_is, is_told}
use Rattle.law_run.proofs.AnyCalls.Going.{own_told, told_both}
use Rattle.law_run.proofs.AnyCalls.Showing.{shown_untold}

-- ---- records that show no PDU of RLC

user_skips : (r : Result UserPdu PdcpRefusal) (rest : List Record) → pdus_shown (user_shown r ∷ rest) ≡ pdus_shown rest
user_skips (Ok (DataSdu sn octets)) rest = refl
user_skips (Ok (Report fms bitmap)) rest = refl
user_skips (Err fault) rest = refl

srb_skips : (r : Result SrbPdu PdcpRefusal) (rest : List Record) → pdus_shown (srb_shown r ∷ rest) ≡ pdus_shown rest
srb_skips (Ok pdu) rest = refl
srb_skips (Err fault) rest = refl

pdcp_skips : (kind : PdcpKind) (octets : List ℕ) (rest : List Record)
    → pdus_shown (pdcp_shown kind octets ∷ rest) ≡ pdus_shown rest
pdcp_skips pdcp.Srb octets rest = srb_skips (srb_at octets) rest
pdcp_skips (pdcp.Um bits) octets rest = user_skips (user_at bits octets) rest
pdcp_skips (pdcp.Am bits) octets rest = user_skips (user_at bits octets) rest

all_skip : (kind : PdcpKind) (xs : List (List ℕ)) (rest : List Record)
    → pdus_shown (map (pdcp_shown kind) xs ++ rest) ≡ pdus_shown rest
all_skip kind [] rest = refl
all_skip kind (x ∷ xs) rest = pdcp_skips kind x (map (pdcp_shown kind) xs ++ rest) ∙ all_skip kind xs rest

-- ---- those of PDCP are of the SDUs that are whole

user_first : (r : Result UserPdu PdcpRefusal) (rest : List Record)
    → sdus_shown (user_shown r ∷ rest) ≡ user_shown r ∷ sdus_shown rest
user_first (Ok (DataSdu sn octets)) rest = refl
user_first (Ok (Report fms bitmap)) rest = refl
user_first (Err fault) rest = refl

srb_first : (r : Result SrbPdu PdcpRefusal) (rest : List Record)
    → sdus_shown (srb_shown r ∷ rest) ≡ srb_shown r ∷ sdus_shown rest
srb_first (Ok pdu) rest = refl
srb_first (Err fault) rest = refl

pdcp_first : (kind : PdcpKind) (octets : List ℕ) (rest : List Record)
    → sdus_shown (pdcp_shown kind octets ∷ rest) ≡ pdcp_shown kind octets ∷ sdus_shown rest
pdcp_first pdcp.Srb octets rest = srb_first (srb_at octets) rest
pdcp_first (pdcp.Um bits) octets rest = user_first (user_at bits octets) rest
pdcp_first (pdcp.Am bits) octets rest = user_first (user_at bits octets) rest

all_first : (kind : PdcpKind) (xs : List (List ℕ)) (rest : List Record) → sdus_shown rest ≡ []
    → sdus_shown (map (pdcp_shown kind) xs ++ rest) ≡ map (pdcp_shown kind) xs
all_first kind [] rest e = e
all_first kind (x ∷ xs) rest e = pdcp_first kind x (map (pdcp_shown kind) xs ++ rest)
    ∙ ap (λ (l : List Record). pdcp_shown kind x ∷ l) (all_first kind xs rest e)

data_shows : (bits : ℕ) (octets : List ℕ) (d : IsData bits octets) → ShowsData bits d.sn (length d.data-part) octets
data_shows bits octets d = record { data-part = d.data-part; long = refl; octets_are = d.canonical }

sdu_shows : (kind : PdcpKind) (octets : List ℕ) → IsPdcp kind octets → IsShownSdu kind octets (pdcp_shown kind octets)
sdu_shows pdcp.Srb octets i =
    subst (λ (r : Result SrbPdu PdcpRefusal). IsShownSdu pdcp.Srb octets (srb_shown r)) (sym i.read)
    (record { text = i.pdu.octets; long = refl; octets_are = i.canonical })
sdu_shows (pdcp.Um bits) octets i =
    subst (λ (r : Result UserPdu PdcpRefusal). IsShownSdu (pdcp.Um bits) octets (user_shown r)) (sym i.read)
    (data_shows bits octets i)
sdu_shows (pdcp.Am bits) octets (inl i) =
    subst (λ (r : Result UserPdu PdcpRefusal). IsShownSdu (pdcp.Am bits) octets (user_shown r)) (sym i.read)
    (data_shows bits octets i)
sdu_shows (pdcp.Am bits) octets (inr i) =
    subst (λ (r : Result UserPdu PdcpRefusal). IsShownSdu (pdcp.Am bits) octets (user_shown r)) (sym i.read)
    i.canonical

sdus_show_all : (kind : PdcpKind) (xs : List (List ℕ)) → AllByRecursion (IsPdcp kind) xs
    → AreShownSdus kind xs (map (pdcp_shown kind) xs)
sdus_show_all kind [] a = tt
sdus_show_all kind (x ∷ xs) a = (sdu_shows kind x a.0, sdus_show_all kind xs a.1)

same_whole : (first last : Bool) (xs : List (List ℕ)) → whole first last xs ≡ whole_in first last xs
unfolding whole
same_whole first last [] = refl
same_whole first last (x ∷ []) = refl
same_whole true last (x ∷ y ∷ ys) = ap (λ (zs : List (List ℕ)). x ∷ zs) (same_whole true last (y ∷ ys))
same_whole false last (x ∷ y ∷ ys) = same_whole true last (y ∷ ys)

wholes_are : (fi : ℕ) (xs : List (List ℕ)) → fi < 2 ^ 2 → whole (begins fi) (ends fi) xs ≡ whole_sdus fi xs
wholes_are zero xs lt = same_whole true true xs ∙ sym (whole_is true true xs)
wholes_are (suc zero) xs lt = same_whole true false xs ∙ sym (whole_is true false xs)
wholes_are (suc (suc zero)) xs lt = same_whole false true xs ∙ sym (whole_is false true xs)
wholes_are (suc (suc (suc zero))) xs lt = same_whole false false xs ∙ sym (whole_is false false xs)
wholes_are (suc (suc (suc (suc fi)))) xs lt = absurd (omega (arith, lt))

wholes_show : (kind : PdcpKind) (fi : ℕ) (xs : List (List ℕ)) → fi < 2 ^ 2
    → AllByRecursion (IsPdcp kind) (whole_sdus fi xs) → AreShownSdus kind (whole_sdus fi xs) (wholes_shown kind fi xs)
wholes_show kind fi xs lt a =
    subst (λ (ys : List (List ℕ)). AreShownSdus kind (whole_sdus fi xs) (map (pdcp_shown kind) ys))
    (sym (wholes_are fi xs lt)) (sdus_show_all kind (whole_sdus fi xs) a)

-- ---- none of them is bad

sdu_good : (kind : PdcpKind) (octets : List ℕ) → IsPdcp kind octets → is_bad (pdcp_shown kind octets) ≡ false
sdu_good pdcp.Srb octets i = ap (λ (r : Result SrbPdu PdcpRefusal). is_bad (srb_shown r)) i.read
sdu_good (pdcp.Um bits) octets i = ap (λ (r : Result UserPdu PdcpRefusal). is_bad (user_shown r)) i.read
sdu_good (pdcp.Am bits) octets (inl i) = ap (λ (r : Result UserPdu PdcpRefusal). is_bad (user_shown r)) i.read
sdu_good (pdcp.Am bits) octets (inr i) = ap (λ (r : Result UserPdu PdcpRefusal). is_bad (user_shown r)) i.read

all_good : (kind : PdcpKind) (xs : List (List ℕ)) → AllByRecursion (IsPdcp kind) xs
    → filter is_bad (map (pdcp_shown kind) xs) ≡ []
all_good kind [] a = refl
all_good kind (x ∷ xs) a = rw (sdu_good kind x a.0) (all_good kind xs a.1)

wholes_good : (kind : PdcpKind) (fi : ℕ) (xs : List (List ℕ)) → fi < 2 ^ 2
    → AllByRecursion (IsPdcp kind) (whole_sdus fi xs) → filter is_bad (wholes_shown kind fi xs) ≡ []
wholes_good kind fi xs lt a =
    ap (λ (ys : List (List ℕ)). filter is_bad (map (pdcp_shown kind) ys)) (wholes_are fi xs lt)
    ∙ all_good kind (whole_sdus fi xs) a

-- ---- a PDU: its record, and those of PDCP behind it

record Shows (mode : Option Mode) (layout : Option Layout) (octets : List ℕ) (how' : How) (sn : ℕ) : Type 0 where
  first : Record
  more : List Record
  shown_is : rlc_shown layout octets ≡ first ∷ more
  skips : (rest : List Record) → pdus_shown (more ++ rest) ≡ pdus_shown rest
  sdus : (rest : List Record) → sdus_shown rest ≡ [] → sdus_shown (more ++ rest) ≡ more
  good : filter is_bad (first ∷ more) ≡ []
  is : (lcid : ℕ) → IsShownAs mode how' sn octets (record { lcid = lcid; rlc = first; sdus = more })

tm_shows : (layout : Option Layout) (octets : List ℕ) (sn : ℕ) → IsKnownAs layout Transparent → 0 < length octets
    → Shows (Some Transparent) layout octets how.Tm sn
unfolding rlc_shown
tm_shows None octets sn k some = absurd k
tm_shows (Some layouts.Tm) [] sn k some = absurd (omega (arith, some))
tm_shows (Some layouts.Tm) (x ∷ xs) sn k some =
    record {
      first = records.RlcTm (length (x ∷ xs));
      more = [];
      shown_is = refl;
      skips = λ rest. refl;
      sdus = λ rest e. e;
      good = refl;
      is = λ lcid. (refl, refl);
    }
tm_shows (Some (layouts.Um bits kind)) octets sn k some = let no : Unacknowledged bits kind ≡ Transparent = k in
    absurd cc
tm_shows (Some (layouts.Am kind)) octets sn k some = let no : Acknowledged kind ≡ Transparent = k in absurd cc

um_known : (bits : ℕ) (kind : PdcpKind) (octets : List ℕ) (sn : ℕ) → IsUmd kind bits sn octets
    → Shows (Some (Unacknowledged bits kind)) (Some (layouts.Um bits kind)) octets how.New sn
unfolding rlc_shown
um_known bits kind octets sn u =
    let p = u.pdu in
    let ls = map length p.elements in
    record {
      first = records.RlcUm p.sn p.fi ls;
      more = wholes_shown kind p.fi p.elements;
      shown_is = ap (λ (r : _). um_shown kind r) u.read;
      skips = λ rest. all_skip kind (whole (begins p.fi) (ends p.fi) p.elements) rest;
      sdus = λ rest e. all_first kind (whole (begins p.fi) (ends p.fi) p.elements) rest e;
      good = wholes_good kind p.fi p.elements u.framing u.sdus;
      is = λ lcid. record {
        pdu = p;
        read = u.read;
        rlc = ap (λ (n : ℕ). records.RlcUm n p.fi ls) u.number;
        sdus = wholes_show kind p.fi p.elements u.framing u.sdus;
      };
    }

um_shows : (layout : Option Layout) (bits : ℕ) (kind : PdcpKind) (octets : List ℕ) (sn : ℕ)
    → IsKnownAs layout (Unacknowledged bits kind) → IsUmd kind bits sn octets
    → Shows (Some (Unacknowledged bits kind)) layout octets how.New sn
um_shows None bits kind octets sn k u = absurd k
um_shows (Some layouts.Tm) bits kind octets sn k u = let no : Transparent ≡ Unacknowledged bits kind = k in absurd cc
um_shows (Some (layouts.Um n other)) bits kind octets sn k u =
    let same : n ≡ bits = cc in
    let alike : other ≡ kind = cc in
    subst (λ (m : ℕ). Shows (Some (Unacknowledged bits kind)) (Some (layouts.Um m other)) octets how.New sn) (sym same)
    (subst (λ (o : PdcpKind). Shows (Some (Unacknowledged bits kind)) (Some (layouts.Um bits o)) octets how.New sn)
    (sym alike) (um_known bits kind octets sn u))
um_shows (Some (layouts.Am other)) bits kind octets sn k u = let no : Acknowledged other ≡ Unacknowledged bits kind =
    k in absurd cc

-- a segment where it is sent again
record ShowsAs (kind : PdcpKind) (again' : Bool) (octets : List ℕ) (sn : ℕ) : Type 0 where
  first : Record
  more : List Record
  shown_is : rlc_shown (Some (layouts.Am kind)) octets ≡ first ∷ more
  skips : (rest : List Record) → pdus_shown (more ++ rest) ≡ pdus_shown rest
  sdus : (rest : List Record) → sdus_shown rest ≡ [] → sdus_shown (more ++ rest) ≡ more
  good : filter is_bad (first ∷ more) ≡ []
  is : (lcid : ℕ) → ShowsAmd kind again' sn octets (record { lcid = lcid; rlc = first; sdus = more })

amd_shows : (segment : Option Segment) (kind : PdcpKind) (again' : Bool) (octets : List ℕ) (sn : ℕ)
    (a : IsAmd kind again' sn octets) → a.pdu.segment ≡ segment → ShowsAs kind again' octets sn
unfolding rlc_shown
amd_shows None kind again' octets sn a e =
    let p = a.pdu in
    let ls = map length p.elements in
    record {
      first = records.RlcAm p.sn p.poll p.fi ls;
      more = wholes_shown kind p.fi p.elements;
      shown_is = ap (λ (r : _). am_shown kind r) a.read ∙ ap (λ (s : Option Segment). amd_shown kind p s) e;
      skips = λ rest. all_skip kind (whole (begins p.fi) (ends p.fi) p.elements) rest;
      sdus = λ rest f. all_first kind (whole (begins p.fi) (ends p.fi) p.elements) rest f;
      good = wholes_good kind p.fi p.elements a.framing a.sdus;
      is = λ lcid. record {
        pdu = p;
        read = a.read;
        whole = a.whole;
        rlc = ap (λ (n : ℕ). records.RlcAm n p.poll p.fi ls) a.number
            ∙ ap (λ (s : Option Segment). amd_record sn p s) (sym e);
        sdus = subst (λ (s : Option Segment). AreShownSdus kind (sdus_of p s) (wholes_shown kind p.fi p.elements))
            (sym e) (wholes_show kind p.fi p.elements a.framing a.sdus);
      };
    }
amd_shows (Some s) kind again' octets sn a e =
    let p = a.pdu in
    let ls = map length p.elements in
    record {
      first = records.RlcSeg p.sn p.poll p.fi s.last s.so ls;
      more = [];
      shown_is = ap (λ (r : _). am_shown kind r) a.read ∙ ap (λ (x : Option Segment). amd_shown kind p x) e;
      skips = λ rest. refl;
      sdus = λ rest f. f;
      good = refl;
      is = λ lcid. record {
        pdu = p;
        read = a.read;
        whole = a.whole;
        rlc = ap (λ (n : ℕ). records.RlcSeg n p.poll p.fi s.last s.so ls) a.number
            ∙ ap (λ (x : Option Segment). amd_record sn p x) (sym e);
        sdus = subst (λ (x : Option Segment). AreShownSdus kind (sdus_of p x) []) (sym e) tt;
      };
    }

am_known : (kind : PdcpKind) (how' : How) (octets : List ℕ) (sn : ℕ)
    → IsNamed (Some (Acknowledged kind)) how' sn octets
    → Shows (Some (Acknowledged kind)) (Some (layouts.Am kind)) octets how' sn
unfolding rlc_shown
am_known kind how.Tm octets sn n = absurd n
am_known kind how.New octets sn n =
    let a = amd_shows n.pdu.segment kind false octets sn n refl in
    record {
      first = a.first;
      more = a.more;
      shown_is = a.shown_is;
      skips = a.skips;
      sdus = a.sdus;
      good = a.good;
      is = a.is;
    }
am_known kind how.Re octets sn n =
    let a = amd_shows n.pdu.segment kind true octets sn n refl in
    record {
      first = a.first;
      more = a.more;
      shown_is = a.shown_is;
      skips = a.skips;
      sdus = a.sdus;
      good = a.good;
      is = a.is;
    }
am_known kind how.Status octets sn n = record {
  first = records.RlcStatus sn n.nacks;
  more = [];
  shown_is = ap (λ (r : _). am_shown kind r) n.read;
  skips = λ rest. refl;
  sdus = λ rest e. e;
  good = refl;
  is = λ lcid. record { nacks = n.nacks; read = n.read; rlc = refl; sdus = refl };
}

am_shows : (layout : Option Layout) (kind : PdcpKind) (how' : How) (octets : List ℕ) (sn : ℕ)
    → IsKnownAs layout (Acknowledged kind) → IsNamed (Some (Acknowledged kind)) how' sn octets
    → Shows (Some (Acknowledged kind)) layout octets how' sn
am_shows None kind how' octets sn k n = absurd k
am_shows (Some layouts.Tm) kind how' octets sn k n = let no : Transparent ≡ Acknowledged kind = k in absurd cc
am_shows (Some (layouts.Um bits other)) kind how' octets sn k n =
    let no : Unacknowledged bits other ≡ Acknowledged kind = k in absurd cc
am_shows (Some (layouts.Am other)) kind how' octets sn k n =
    let alike : other ≡ kind = cc in
    subst (λ (o : PdcpKind). Shows (Some (Acknowledged kind)) (Some (layouts.Am o)) octets how' sn) (sym alike)
    (am_known kind how' octets sn n)

one_shows : (mode : Option Mode) (layout : Option Layout) (how' : How) (octets : List ℕ) (sn : ℕ)
    → ((m : Mode) → mode ≡ Some m → IsKnownAs layout m) → IsNamed mode how' sn octets
    → Shows mode layout octets how' sn
one_shows None layout how' octets sn k n = absurd n
one_shows (Some Transparent) layout how.Tm octets sn k n = tm_shows layout octets sn (k Transparent refl) n.1
one_shows (Some Transparent) layout how.New octets sn k n = absurd n
one_shows (Some Transparent) layout how.Re octets sn k n = absurd n
one_shows (Some Transparent) layout how.Status octets sn k n = absurd n
one_shows (Some (Unacknowledged bits kind)) layout how.Tm octets sn k n = absurd n
one_shows (Some (Unacknowledged bits kind)) layout how.New octets sn k n =
    um_shows layout bits kind octets sn (k (Unacknowledged bits kind) refl) n
one_shows (Some (Unacknowledged bits kind)) layout how.Re octets sn k n = absurd n
one_shows (Some (Unacknowledged bits kind)) layout how.Status octets sn k n = absurd n
one_shows (Some (Acknowledged kind)) layout how' octets sn k n =
    am_shows layout kind how' octets sn (k (Acknowledged kind) refl) n

-- ---- the items of a block

pads_skip : (kinds : List (Option Layout)) (ends' : List ℕ) → pdus_shown (items_shown kinds (map padding ends')) ≡ []
unfolding item_shown
pads_skip kinds [] = refl
pads_skip kinds (n ∷ ns) = pads_skip kinds ns

-- behind a PDU and its SDUs stands another, or padding
none_first : (kinds : List (Option Layout)) (ds : List Sdu) (ends' : List ℕ)
    → sdus_shown (items_shown kinds (map sdu_item ds ++ map padding ends')) ≡ []
unfolding item_shown
none_first kinds [] [] = refl
none_first kinds [] (n ∷ ns) = refl
none_first kinds (d ∷ ds) ends' = refl

sdus_show : (kinds : List (Option Layout)) (modes : ℕ → Option Mode) (ss : List SentPdu) (ds : List Sdu)
    (ends' : List ℕ)
    → AreKnown kinds modes → AreNamed modes ss ds
    → AreShown modes ss ds (pdus_shown (items_shown kinds (map sdu_item ds ++ map padding ends')))
unfolding item_shown
sdus_show kinds modes [] [] ends' k a =
    subst (λ (l : List Shown). AreShown modes [] [] l) (sym (pads_skip kinds ends')) tt
sdus_show kinds modes [] (d ∷ ds) ends' k a = absurd a
sdus_show kinds modes (s ∷ ss) [] ends' k a = absurd a
sdus_show kinds modes (s ∷ ss) (d ∷ ds) ends' k a =
    let rest = items_shown kinds (map sdu_item ds ++ map padding ends') in
    let layout = slice_index_or kinds d.lcid None in
    let known : (m : Mode) → modes s.lcid ≡ Some m → IsKnownAs layout m = λ m e. k d.lcid m (ap modes a.0 ∙ e) in
    let one = one_shows (modes s.lcid) layout s.how d.octets s.sn known a.1 in
    let is : pdus_shown (records.MacSdu d.lcid (length d.octets) ∷ (rlc_shown layout d.octets ++ rest))
    ≡ record { lcid = d.lcid; rlc = one.first; sdus = one.more } ∷ pdus_shown rest =
    ap (λ (rs : List Record). pdus_shown (records.MacSdu d.lcid (length d.octets) ∷ (rs ++ rest))) one.shown_is
    ∙ ap (λ (rs : List Record). record { lcid = d.lcid; rlc = one.first; sdus = rs } ∷ pdus_shown (one.more ++ rest))
    (one.sdus rest (none_first kinds ds ends'))
    ∙ ap (λ (l : List Shown). record { lcid = d.lcid; rlc = one.first; sdus = one.more } ∷ l) (one.skips rest) in
    subst (λ (l : List Shown). AreShown modes (s ∷ ss) (d ∷ ds) l) (sym is) (
      a.0,
      one.is d.lcid,
      sdus_show kinds modes ss ds ends' k a.2,
    )

pads_good : (kinds : List (Option Layout)) (ends' : List ℕ) → filter is_bad (items_shown kinds (map padding ends')) ≡ []
unfolding item_shown
pads_good kinds [] = refl
pads_good kinds (n ∷ ns) = pads_good kinds ns

sdus_good : (kinds : List (Option Layout)) (modes : ℕ → Option Mode) (ss : List SentPdu) (ds : List Sdu)
    (ends' : List ℕ)
    → AreKnown kinds modes → AreNamed modes ss ds
    → filter is_bad (items_shown kinds (map sdu_item ds ++ map padding ends')) ≡ []
unfolding item_shown
sdus_good kinds modes [] [] ends' k a = pads_good kinds ends'
sdus_good kinds modes [] (d ∷ ds) ends' k a = absurd a
sdus_good kinds modes (s ∷ ss) [] ends' k a = absurd a
sdus_good kinds modes (s ∷ ss) (d ∷ ds) ends' k a =
    let rest = items_shown kinds (map sdu_item ds ++ map padding ends') in
    let layout = slice_index_or kinds d.lcid None in
    let known : (m : Mode) → modes s.lcid ≡ Some m → IsKnownAs layout m = λ m e. k d.lcid m (ap modes a.0 ∙ e) in
    let one = one_shows (modes s.lcid) layout s.how d.octets s.sn known a.1 in
    filter-append is_bad (rlc_shown layout d.octets) rest
    ∙ ap (λ (rs : List Record). filter is_bad rs ++ filter is_bad rest) one.shown_is
    ∙ ap (λ (rs : List Record). rs ++ filter is_bad rest) one.good
    ∙ sdus_good kinds modes ss ds ends' k a.2

fronts_good : (kinds : List (Option Layout)) (n : ℕ) (more : List _)
    → filter is_bad (items_shown kinds (replicate n front ++ more)) ≡ filter is_bad (items_shown kinds more)
unfolding item_shown
fronts_good kinds zero more = refl
fronts_good kinds (suc n) more = fronts_good kinds n more

report_good : (kinds : List (Option Layout)) (r : Option Bsr) (ds : List Sdu) (ends' : List ℕ)
    → filter is_bad (items_shown kinds ((reported r ++ map sdu_item ds) ++ map padding ends'))
    ≡ filter is_bad (items_shown kinds (map sdu_item ds ++ map padding ends'))
unfolding item_shown
report_good kinds None ds ends' = refl
report_good kinds (Some r) ds ends' = refl

fronts_skip : (kinds : List (Option Layout)) (n : ℕ) (more : List _)
    → pdus_shown (items_shown kinds (replicate n front ++ more)) ≡ pdus_shown (items_shown kinds more)
unfolding item_shown
fronts_skip kinds zero more = refl
fronts_skip kinds (suc n) more = fronts_skip kinds n more

report_skips : (kinds : List (Option Layout)) (r : Option Bsr) (ds : List Sdu) (ends' : List ℕ)
    → pdus_shown (items_shown kinds ((reported r ++ map sdu_item ds) ++ map padding ends'))
    ≡ pdus_shown (items_shown kinds (map sdu_item ds ++ map padding ends'))
unfolding item_shown
report_skips kinds None ds ends' = refl
report_skips kinds (Some r) ds ends' = refl

-- ---- its octets

octets_good : (side : Side) (maximum : ℕ) (reports : Bool) (calls : List EndCall) → AreGiven calls
    → (t grant : ℕ) (order : Order) (kinds : List (Option Layout)) → 1 ≤ grant → grant ≤ 9422
    → visit t order (reached side maximum reports calls) ≡ New
    → AreKnown kinds (modes_of (visited t order (reached side maximum reports calls)))
    → filter is_bad
    (block_shown (sent_by side) kinds (new_block (visited t order (reached side maximum reports calls)) grant)) ≡ []
octets_good side maximum reports calls g t grant order kinds some within new known =
    let e = reached side maximum reports calls in
    let v = visited t order e in
    let ds = all_sdus v grant v.buckets.channels in
    let b = has_what_was_written side maximum reports calls g t order grant some within in
    let s : v.side ≡ side = (visited_whole side t order e (reached_whole side maximum reports calls)).side_is in
    ap (λ (x : Side). filter is_bad (block_shown (sent_by x) kinds (new_block v grant))) (sym s)
    ∙ ap (λ (r : _). filter is_bad (shown_by kinds r)) b.read
    ∙ fronts_good kinds b.fronts ((reported (report v grant) ++ map sdu_item ds) ++ map padding b.ends)
    ∙ report_good kinds (report v grant) ds b.ends
    ∙ sdus_good kinds (modes_of v) (sent_pdus (building t grant order e)) ds b.ends known
    (names_what_it_sends side maximum reports calls g t grant order new)

octets_show : (side : Side) (maximum : ℕ) (reports : Bool) (calls : List EndCall) → AreGiven calls
    → (t grant : ℕ) (order : Order) (kinds : List (Option Layout)) → 1 ≤ grant → grant ≤ 9422
    → visit t order (reached side maximum reports calls) ≡ New
    → AreKnown kinds (modes_of (visited t order (reached side maximum reports calls)))
    → AreShown (modes_of (visited t order (reached side maximum reports calls)))
    (sent_pdus (building t grant order (reached side maximum reports calls)))
    (all_sdus (visited t order (reached side maximum reports calls)) grant
    (visited t order (reached side maximum reports calls)).buckets.channels)
    (pdus_shown
    (block_shown (sent_by side) kinds (new_block (visited t order (reached side maximum reports calls)) grant)))
octets_show side maximum reports calls g t grant order kinds some within new known =
    let e = reached side maximum reports calls in
    let v = visited t order e in
    let ss = sent_pdus (building t grant order e) in
    let ds = all_sdus v grant v.buckets.channels in
    let b = has_what_was_written side maximum reports calls g t order grant some within in
    let s : v.side ≡ side = (visited_whole side t order e (reached_whole side maximum reports calls)).side_is in
    let is : pdus_shown (block_shown (sent_by side) kinds (new_block v grant))
    ≡ pdus_shown (items_shown kinds (map sdu_item ds ++ map padding b.ends)) =
    ap (λ (x : Side). pdus_shown (block_shown (sent_by x) kinds (new_block v grant))) (sym s)
    ∙ ap (λ (r : _). pdus_shown (shown_by kinds r)) b.read
    ∙ fronts_skip kinds b.fronts ((reported (report v grant) ++ map sdu_item ds) ++ map padding b.ends)
    ∙ report_skips kinds (report v grant) ds b.ends in
    subst (λ (l : List Shown). AreShown (modes_of v) ss ds l) (sym is)
    (sdus_show kinds (modes_of v) ss ds b.ends known
    (names_what_it_sends side maximum reports calls g t grant order new))

-- ---- what is told of the visit

-- what is written is none of the test loop
no_loop : (es : List Event) → TellNoLoop (filter is_of_writing es)
no_loop [] = refl
no_loop (events.Take lcid count len ∷ es) = no_loop es
no_loop (events.Report lcid fms bitmap ∷ es) = no_loop es
no_loop (events.Send lcid how sn ∷ es) = no_loop es
no_loop (events.Wait lcid why ∷ es) = no_loop es
no_loop (events.Start lcid clock ∷ es) = no_loop es
no_loop (events.Stop lcid clock ∷ es) = no_loop es
no_loop (events.Expired lcid clock ∷ es) = no_loop es
no_loop (events.Up lcid octets ∷ es) = no_loop es
no_loop (events.Fail lcid sn ∷ es) = no_loop es
no_loop (events.Drop lcid why ∷ es) = no_loop es
no_loop (events.Integrity lcid found wanted ∷ es) = no_loop es
no_loop (events.BadMac fault ∷ es) = no_loop es
no_loop (events.BadRlc lcid fault ∷ es) = no_loop es
no_loop (events.BadPdcp lcid fault ∷ es) = no_loop es
no_loop (events.Discard lcid len ∷ es) = no_loop es

events_skip : (side : Side) (es : List Event) (rest : List Record)
    → pdus_shown (map (records.Of side) es ++ rest) ≡ pdus_shown rest
events_skip side [] rest = refl
events_skip side (e ∷ es) rest = events_skip side es rest

events_good : (side : Side) (es : List Event) (rest : List Record)
    → filter is_bad (map (records.Of side) es ++ rest) ≡ filter is_bad rest
events_good side [] rest = refl
events_good side (e ∷ es) rest = events_good side es rest

-- before a new block its events, and behind it what shows it
told_shows : (side : Side) (t : ℕ) (ks : List (Option Layout)) (octets : List ℕ) (es : List Event) (modes : ℕ
    → Option Mode) (ds : List Sdu) → TellNoLoop es
    → AreShown modes (sent_pdus es) ds (pdus_shown (block_shown (sent_by side) ks octets))
    → AreShown modes (sent_pdus (events_of side (map (records.Of side) es ++ block_told side t ks octets))) ds
    (pdus_shown (map (records.Of side) es ++ block_told side t ks octets))
told_shows side t ks octets es modes ds none shown =
    let xs = map (records.Of side) es in
    let ys = block_told side t ks octets in
    let told : events_of side (xs ++ ys) ≡ es =
    told_both side xs ys es [] (own_told side es none) (shown_untold side (sent_by side) ks octets)
    ∙ append-nil es in
    subst (λ (x : List Event). AreShown modes (sent_pdus x) ds (pdus_shown (xs ++ ys))) (sym told)
    (subst (λ (x : List Shown). AreShown modes (sent_pdus es) ds x) (sym (events_skip side es ys)) shown)

pub blocks_are_shown : (side : Side) (maximum : ℕ) (reports : Bool) (calls : List EndCall) → AreGiven calls
    → (t grant : ℕ) (order : Order) (kinds : List (Option Layout)) → 1 ≤ grant → grant ≤ 9422
    → visit t order (reached side maximum reports calls) ≡ New
    → AreKnown kinds (modes_of (visited t order (reached side maximum reports calls)))
    → IsShownBlock side t grant kinds (built_told New side t grant order kinds (reached side maximum reports calls))
unfolding is_told
blocks_are_shown side maximum reports calls g t grant order kinds some within new known =
    let e = reached side maximum reports calls in
    let v = visited t order e in
    let all = building t grant order e in
    let es = filter is_of_writing all in
    let octets = new_block v grant in
    let ds = all_sdus v grant v.buckets.channels in
    let held = block_is t grant order e (reached_whole side maximum reports calls).eight new in
    let shown = octets_show side maximum reports calls g t grant order kinds some within new known in
    let kept : AreShown (modes_of v) (sent_pdus es) ds (pdus_shown (block_shown (sent_by side) kinds octets)) =
    subst (λ (x : List SentPdu). AreShown (modes_of v) x ds (pdus_shown (block_shown (sent_by side) kinds octets)))
    (sym (sends_kept all)) shown in
    let told = told_shows side t kinds octets es (modes_of v) ds (no_loop all) kept in
    record {
      block = record {
        events = es;
        octets = octets;
        told_is = ap (λ (x : List ℕ). map (records.Of side) es ++ block_told side t kinds x) held;
        block_is = is_told side maximum reports calls g t grant order within some new;
      };
      known = known;
      shown =
          subst
          (λ (x : List ℕ). AreShown (modes_of v)
          (sent_pdus (events_of side (map (records.Of side) es ++ block_told side t kinds x))) ds
          (pdus_shown (map (records.Of side) es ++ block_told side t kinds x))) (sym held) told;
      read = ap (λ (x : List ℕ). filter is_bad (map (records.Of side) es ++ block_told side t kinds x)) held
          ∙ events_good side es (block_told side t kinds octets)
          ∙ octets_good side maximum reports calls g t grant order kinds some within new known;
    }
