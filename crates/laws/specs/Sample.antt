-- Sample A (docs/RULES.md, "Sample A and its listing"), segment by segment, and the pieces that its edges are made of.
use Rattle.std.specs.Prelude.{ℕ, zero, suc, ◌+◌, List, [], ◌∷◌, ◌++◌, length, replicate}
use Rattle.numbers.specs.Bytes.{bytes_of}
use Rattle.types.specs.Markers.{SOC, CAP, SIZ, TLM, SOT, EOC}

-- a number in 2 bytes, and in 4
unfoldable pub two : ℕ → List ℕ
unfolding bytes_of
two n = bytes_of 2 n

unfoldable pub four : ℕ → List ℕ
unfolding bytes_of
four n = bytes_of 4 n

abbrev pub zeros : ℕ → List ℕ
zeros n = replicate n 0

-- SIZ: Lsiz; image end and origin, tile size and origin; Csiz, and the components' bytes
unfoldable pub siz_from : ℕ → ℕ → ℕ → ℕ → ℕ → ℕ → ℕ → ℕ → ℕ → ℕ → List ℕ → List ℕ
unfolding two four
siz_from lsiz x y xo yo xt yt xto yto csiz components =
    two SIZ ++ two lsiz ++ two 0 ++ four x ++ four y ++ four xo ++ four yo ++ four xt ++ four yt ++ four xto ++ four yto
    ++ two csiz ++ components

-- with the tile origin 0
unfoldable pub siz_of : ℕ → ℕ → ℕ → ℕ → ℕ → ℕ → ℕ → ℕ → List ℕ → List ℕ
unfolding siz_from
siz_of lsiz x y xo yo xt yt csiz components = siz_from lsiz x y xo yo xt yt 0 0 csiz components

-- one 8-bit component
unfoldable pub siz : ℕ → ℕ → ℕ → ℕ → ℕ → ℕ → List ℕ
unfolding siz_of
siz x y xo yo xt yt = siz_of 41 x y xo yo xt yt 1 (7 ∷ 1 ∷ 1 ∷ [])

-- SOC and SIZ: 45 bytes
unfoldable pub header : ℕ → ℕ → ℕ → ℕ → ℕ → ℕ → List ℕ
unfolding two siz
header x y xo yo xt yt = two SOC ++ siz x y xo yo xt yt

-- and with any tile origin
unfoldable pub grid : ℕ → ℕ → ℕ → ℕ → ℕ → ℕ → ℕ → ℕ → List ℕ
unfolding two siz_from
grid x y xo yo xt yt xto yto = two SOC ++ siz_from 41 x y xo yo xt yt xto yto 1 (7 ∷ 1 ∷ 1 ∷ [])

-- 10 by 6 in tiles of 4 by 4, from an origin on, with any Lsiz, Csiz and components' bytes
unfoldable pub counting : ℕ → ℕ → ℕ → ℕ → List ℕ → List ℕ
unfolding two siz_of
counting lsiz xo yo csiz components = two SOC ++ siz_of lsiz 10 6 xo yo 4 4 csiz components

-- TLM of a Ztlm and an Stlm, and the bytes of its entries
unfoldable pub tlm_of : ℕ → ℕ → List ℕ → List ℕ
unfolding two
tlm_of ztlm stlm entries = two TLM ++ two (4 + length entries) ++ (ztlm ∷ stlm ∷ entries)

-- of Ztlm 0
unfoldable pub tlm : ℕ → List ℕ → List ℕ
unfolding tlm_of
tlm stlm entries = tlm_of 0 stlm entries

-- SOC, SIZ with nothing but Rsiz, segments, and SOT
unfoldable pub announcing : ℕ → List ℕ → List ℕ
unfolding two
announcing rsiz segments = two SOC ++ two SIZ ++ two 4 ++ two rsiz ++ segments ++ two SOT

-- CAP of an Lcap and a Pcap, and the bytes of its words
unfoldable pub cap : ℕ → ℕ → List ℕ → List ℕ
unfolding two four
cap lcap pcap words = two CAP ++ two lcap ++ four pcap ++ words

-- SOT: tile, Psot, TPsot, TNsot
unfoldable pub sot_of : ℕ → ℕ → ℕ → ℕ → List ℕ
unfolding two four
sot_of tile psot tpsot tnsot = two SOT ++ two 10 ++ two tile ++ four psot ++ (tpsot ∷ tnsot ∷ [])

-- tile-part 0 of 1
unfoldable pub sot : ℕ → ℕ → List ℕ
unfolding sot_of
sot tile psot = sot_of tile psot 0 1

-- a tile-part: SOT, SOD and a body
unfoldable pub part : ℕ → ℕ → List ℕ → List ℕ
unfolding sot
part tile psot body = sot tile psot ++ (0xff ∷ 0x93 ∷ body)

-- 10 by 6 in tiles of 4 by 4
unfoldable pub head : List ℕ
unfolding header
head = header 10 6 0 0 4 4

-- TLM segments between that and a tile-part
unfoldable pub with_tlm : List ℕ → List ℕ
unfolding head part
with_tlm segments = head ++ segments ++ part 0 14 []

-- TLM with indices of 1 byte and lengths of 2, of any entries, before two tile-parts
unfoldable pub listing : List ℕ → List ℕ
unfolding two head tlm part
listing entries = head ++ tlm 0x10 entries ++ part 0 14 [] ++ part 5 16 (0xaa ∷ 0xbb ∷ []) ++ two EOC

unfoldable pub A : List ℕ
unfolding listing
A = listing (0 ∷ 0 ∷ 14 ∷ 5 ∷ 0 ∷ 16 ∷ [])

-- SOC, a SIZ of no field, segments, and what follows
unfoldable pub lean : List ℕ → List ℕ → List ℕ
unfolding two
lean segments parts = two SOC ++ two SIZ ++ two 2 ++ segments ++ parts

-- JP2's signature box, and the first bytes of a jp2c box of a length
unfoldable pub signature : List ℕ
signature = 0 ∷ 0 ∷ 0 ∷ 0xc ∷ 0x6a ∷ 0x50 ∷ 0x20 ∷ 0x20 ∷ 0xd ∷ 0xa ∷ 0x87 ∷ 0xa ∷ []

unfoldable pub jp2c : ℕ → List ℕ
jp2c size = 0 ∷ 0 ∷ 0 ∷ size ∷ 0x6a ∷ 0x70 ∷ 0x32 ∷ 0x63 ∷ []

-- types of boxes: three that hold boxes, "jp2h", "res " and "uinf", and some that do not, "ihdr", "resc", "ulst" and "uuid"
abbrev pub JP2H : ℕ
JP2H = 0x6a70_3268

abbrev pub RES : ℕ
RES = 0x7265_7320

abbrev pub UINF : ℕ
UINF = 0x7569_6e66

abbrev pub IHDR : ℕ
IHDR = 0x6968_6472

abbrev pub RESC : ℕ
RESC = 0x7265_7363

abbrev pub ULST : ℕ
ULST = 0x756c_7374

abbrev pub UUID : ℕ
UUID = 0x7575_6964

-- a box's header: its length and type; with the length in 8 bytes behind
unfoldable pub box_head : ℕ → ℕ → List ℕ
unfolding four
box_head size kind = four size ++ four kind

unfoldable pub long_head : ℕ → ℕ → List ℕ
unfolding box_head bytes_of
long_head size kind = box_head 1 kind ++ bytes_of 8 size

-- a box: its type and content
unfoldable pub box : ℕ → List ℕ → List ℕ
unfolding box_head
box kind content = box_head (8 + length content) kind ++ content

-- so many superboxes, one in the other, and what the innermost holds
unfoldable pub nest : ℕ → List ℕ → List ℕ
unfolding box
nest zero content = content
nest (suc n) content = box JP2H (nest n content)
