-- Worked examples: which texts are paths and versions, how versions stand to one another, and what calls reply and leave over small sources, all
-- by computing it; and that each of these sources is lawful, so that the laws speak of it. Assumes nothing.
use Rattle.std.specs.Prelude.{◌≡◌, ℕ, suc, Bool, true, false, cond, not, List, [], ◌∷◌, ◌++◌, map, length, take, replicate, Some, None, codes, filter, Option}
use Rattle.std.specs.declared.cmp.Ordering.TheVariants.{Less}
use Rattle.std.specs.declared.cmp.Ordering.{Ordering}
use Rattle.std.specs.Ordering.{is_eq}
use Rattle.std.specs.List.{AllByRecursion}
use Rattle.rules.specs.Orders.{Bytes}
use Rattle.rules.specs.Texts.{slash}
use Rattle.rules.specs.Paths.{is_path}
use Rattle.rules.specs.Versions.{is_version, version_order, is_newer}
use Rattle.rules.specs.Names.{ModuleVersion, module_order, at, same, same_path, has}
use Rattle.rules.specs.Tables.{lookup}
use Rattle.rules.specs.Causes.{wrong_shape, bad_version, missing, damaged_buffer, slice_too_short, too_many_module_versions, nothing_to_change, Fault, Refusal}
use Rattle.rules.specs.Sources.{Answer, found, fault, Meaning, missing_here, falling_back, Lawful}
use Rattle.rules.specs.Projects.{State}
use Rattle.rules.specs.Walks.{Place}
use Rattle.rules.specs.Slices.{blank, Lent}
use Rattle.rules.specs.Manifests.{manifest, unread, reading}
use Rattle.rules.specs.ManifestExamples.{texts}
use Rattle.rules.specs.Calls.{Call, load, raise, drop, exclude, lower, list, Reply, accepted, counted, refused, Outcome, refusal_for}
use Rattle.rules.specs.Runs.{fresh, outcome}

-- ---- texts

-- each stands before the next
abbrev pub rising : List Bytes → List Ordering
rising [] = []
rising (v ∷ []) = []
rising (v ∷ w ∷ vs) = version_order v w ∷ rising (w ∷ vs)

abbrev pub no_versions : List Bytes
no_versions = map codes (
    "" ∷ "1.2.3" ∷ "v01.2.3" ∷ "v1.02.0" ∷ "v1.2" ∷ "v1.2.3-" ∷ "v1.2.3-01" ∷ "v1.2.3-a..b" ∷ "v1.2.3-aaaaaaaaaaaaaaaaaaaaaaaaaaaaaaaaaa" ∷ "v1.2.3.4" ∷ "w1.0.0" ∷ [])

-- versions, ascending
abbrev pub some_versions : List Bytes
some_versions = map codes (
    "v0.0.0"
    -- the example of Semantic Versioning
    ∷ "v1.0.0-alpha" ∷ "v1.0.0-alpha.1" ∷ "v1.0.0-alpha.beta" ∷ "v1.0.0-beta" ∷ "v1.0.0-beta.2" ∷ "v1.0.0-beta.11" ∷ "v1.0.0-rc.1" ∷ "v1.0.0"
    ∷ "v1.2.3-aaaaaaaaaaaaaaaaaaaaaaaaaaaaaaaaa" ∷ "v1.9.0" ∷ "v1.10.0-0" ∷ "v1.10.0-0.x-y" ∷ "v1.10.0" ∷ "v2.0.0" ∷ "v18446744073709551616.0.0" ∷ [])

-- whether the first is newer than the second
abbrev pub newer_texts : List (Bytes × Bytes × Bool)
newer_texts =
    (codes "v1.10.0", codes "v1.9.0", true)
    ∷ (codes "v1.9.0", codes "v1.10.0", false)
    ∷ (codes "v1.9.0", codes "v1.9.0", false)
    ∷ (codes "v0.0.0", codes "w1.0.0", true)
    ∷ (codes "w1.0.0", codes "v0.0.0", false)
    -- of two that are no versions, neither is
    ∷ (codes "w2.0.0", codes "w1.0.0", false)
    ∷ (codes "w1.0.0", codes "w2.0.0", false)
    ∷ []

-- texts, and whether they are paths
abbrev pub path_texts : List (Bytes × Bool)
path_texts =
    (codes "_", true)
    ∷ (codes "example.org/Upper/storm-drain_2~x", true)
    ∷ (codes "a.b/c", true)
    -- 48 bytes, and 49
    ∷ (replicate 48 97, true)
    ∷ (replicate 49 97, false)
    -- an element that is empty
    ∷ (codes "", false)
    ∷ (codes "/a", false)
    ∷ (codes "a/", false)
    ∷ (codes "a//b", false)
    -- a dot first or last in an element
    ∷ (codes ".a", false)
    ∷ (codes "a.", false)
    ∷ (codes "a/.b", false)
    ∷ (codes "a./b", false)
    -- a byte that is none of an element's
    ∷ (codes "a b", false)
    ∷ (codes "a@b", false)
    ∷ []

-- ---- sources

-- a source that is written out: a table of module versions, each with its requirement list
abbrev pub Book : Type 0
Book = List (ModuleVersion × List ModuleVersion)

abbrev pub title : ModuleVersion × List ModuleVersion → ModuleVersion
title e = e.0

abbrev pub entry : Option (ModuleVersion × List ModuleVersion) → Answer (List ModuleVersion)
entry None = fault missing_here
entry (Some e) = found e.1

abbrev pub editions : Book → Bytes → List Bytes
editions es p = map (λ e. (title e).version) (filter (λ e. same_path (title e) p) es)

abbrev pub book : Book → Meaning
book es = record {
  requirements = λ x. entry (lookup title module_order x es);
  listing = λ p. found (editions es p);
}

-- a network of conduits

abbrev pub outfall1 : ModuleVersion
outfall1 = at (codes "outfall") (codes "v1.1.0")

abbrev pub outfall3 : ModuleVersion
outfall3 = at (codes "outfall") (codes "v1.3.0")

abbrev pub rain : ModuleVersion
rain = at (codes "rain") (codes "v1.0.0")

abbrev pub trunk0 : ModuleVersion
trunk0 = at (codes "trunk") (codes "v1.0.0")

abbrev pub trunk2 : ModuleVersion
trunk2 = at (codes "trunk") (codes "v1.2.0")

abbrev pub network : Book
network = (outfall1, []) ∷ (outfall3, []) ∷ (rain, trunk2 ∷ []) ∷ (trunk0, outfall3 ∷ []) ∷ (trunk2, outfall1 ∷ []) ∷ []

-- trunk v1.2.0 is missing
abbrev pub broken_network : Book
broken_network = (outfall1, []) ∷ (outfall3, []) ∷ (rain, trunk2 ∷ []) ∷ (trunk0, outfall3 ∷ []) ∷ []

-- rain v0.9.0 requires what is missing
abbrev pub rain9 : ModuleVersion
rain9 = at (codes "rain") (codes "v0.9.0")

abbrev pub lost : ModuleVersion
lost = at (codes "lost") (codes "v1.0.0")

abbrev pub old_network : Book
old_network = (outfall1, []) ∷ (outfall3, []) ∷ (rain9, lost ∷ []) ∷ (rain, trunk2 ∷ []) ∷ (trunk0, outfall3 ∷ []) ∷ (trunk2, outfall1 ∷ []) ∷ []

-- a ring: two versions of a require b, and b the higher of them

abbrev pub a0 : ModuleVersion
a0 = at (codes "a") (codes "v1.0.0")

abbrev pub a1 : ModuleVersion
a1 = at (codes "a") (codes "v1.1.0")

abbrev pub b0 : ModuleVersion
b0 = at (codes "b") (codes "v1.0.0")

abbrev pub ring : Book
ring = (a0, b0 ∷ []) ∷ (a1, b0 ∷ []) ∷ (b0, a1 ∷ []) ∷ []

-- two rings, of the lower versions and of the higher ones
abbrev pub b1 : ModuleVersion
b1 = at (codes "b") (codes "v1.1.0")

abbrev pub rings : Book
rings = (a0, b0 ∷ []) ∷ (a1, b1 ∷ []) ∷ (b0, a0 ∷ []) ∷ (b1, a1 ∷ []) ∷ []

-- a has one version, and that requires the higher one of b
abbrev pub bound : Book
bound = (a0, b1 ∷ []) ∷ (b0, []) ∷ (b1, []) ∷ []

-- sources that are no books

abbrev pub worn : Fault
worn = record { cause = damaged_buffer; place = 5; depth = 0 }

-- it answers nothing
abbrev pub mute : Meaning
mute = record { requirements = λ x. fault worn; listing = λ p. fault worn }

-- it lists nothing
abbrev pub unlisting : Meaning
unlisting = record { requirements = (book network).requirements; listing = λ p. fault worn }

-- it lists outfall alone
abbrev pub half_listing : Meaning
half_listing = record { requirements = (book network).requirements; listing = λ p. cond (same_path outfall1 p) ((book network).listing p) (fault worn) }

-- the manifest of rain v0.9.0 is damaged
abbrev pub worn_network : Meaning
worn_network = record { requirements = λ x. cond (same x rain9) (fault worn) ((book old_network).requirements x); listing = (book old_network).listing }

-- Every path has the one version v1.0.0. Five paths of one byte require fifty others each, and these nothing: with the main module 256.

abbrev pub v1 : Bytes
v1 = codes "v1.0.0"

abbrev pub five : List Bytes
five = map codes ("a" ∷ "b" ∷ "c" ∷ "d" ∷ "e" ∷ [])

abbrev pub tops : List ModuleVersion
tops = map (λ p. at p v1) five

abbrev pub fan : Bytes → List ModuleVersion
fan p = map (λ b. at (p ++ slash ∷ b ∷ []) v1) (codes "0123456789ABCDEFGHIJKLMNOPQRSTUVWXYZabcdefghijklmn")

abbrev pub fans : Meaning
fans = record {
  requirements = λ x. cond (is_eq (version_order x.version v1)) (found (cond (has tops x) (fan x.path) [])) (fault missing_here);
  listing = λ p. found (v1 ∷ []);
}

-- ---- calls

abbrev pub loads : Bytes → List ModuleVersion → List ModuleVersion → Call
loads p rows excludes = load (manifest (record { main = p; requires = rows; excludes = excludes }))

abbrev pub upper : Call
upper = loads (codes "upper") (trunk0 ∷ rain ∷ []) []

abbrev pub lower_outfall : Call
lower_outfall = lower (codes "outfall") (codes "v1.1.0") (record { sheet = 256; list = 256 })

abbrev pub enough : Lent
enough = record { sheet = 256; list = 256 }

abbrev pub scant : Lent
scant = record { sheet = 255; list = 256 }

-- What is seen of a call: its reply, the state that it leaves, and both slices without the blanks at their end.
pub record Seen : Type 0 where
  pub reply : Reply
  pub state : State
  pub sheet : List Place
  pub list : List ModuleVersion

abbrev pub places_in : Reply → List Place → List Place
places_in accepted l = []
places_in (counted places rows) l = take places l
places_in (refused r) l = filter (λ q. not (same q.row blank)) l

abbrev pub rows_in : Reply → List ModuleVersion → List ModuleVersion
rows_in accepted l = []
rows_in (counted places rows) l = take rows l
rows_in (refused r) l = filter (λ x. not (same x blank)) l

abbrev pub seen : Outcome → Seen
seen o = record { reply = o.reply; state = o.state; sheet = places_in o.reply o.slices.sheet; list = rows_in o.reply o.slices.list }

-- A case: a source, some calls from the fresh state, one call more, and what is seen of that.
abbrev pub Case : Type 0
Case = Meaning × List Call × Call × Seen

abbrev pub sees : Case → Seen
sees c = seen (outcome c.0 c.1 c.2)

-- ---- what is expected

abbrev pub state : Bytes → List ModuleVersion → List ModuleVersion → State
state p rows exclusions = record { main = p; rows = rows; exclusions = exclusions }

abbrev pub main_of : Bytes → ModuleVersion
main_of p = at p (codes "v0.0.0")

abbrev pub from : ℕ → ModuleVersion → Place
from k x = record { row = x; from = k }

-- accepted, with a sheet and a list
abbrev pub gives : State → List Place → List ModuleVersion → Seen
gives s places rows = record { reply = counted (length places) (length rows); state = s; sheet = places; list = rows }

abbrev pub changes : State → Seen
changes s = record { reply = accepted; state = s; sheet = []; list = [] }

abbrev pub refuses : Refusal → State → List Place → List ModuleVersion → Seen
refuses r s places rows = record { reply = refused r; state = s; sheet = places; list = rows }

abbrev pub main_upper : ModuleVersion
main_upper = main_of (codes "upper")

abbrev pub upper_state : State
upper_state = state (codes "upper") (rain ∷ trunk0 ∷ []) []

-- after upper was loaded: each path at the highest version that a chain asks for, and not higher
abbrev pub upper_list : List ModuleVersion
upper_list = main_upper ∷ outfall3 ∷ rain ∷ trunk2 ∷ []

abbrev pub upper_sheet : List Place
upper_sheet = from 0 main_upper ∷ from 0 rain ∷ from 0 trunk0 ∷ from 1 trunk2 ∷ from 2 outfall3 ∷ from 3 outfall1 ∷ []

-- after outfall was lowered: trunk v1.0.0 asks for outfall v1.3.0, trunk v1.2.0 does not
abbrev pub lowered_state : State
lowered_state = state (codes "upper") (outfall1 ∷ rain ∷ trunk2 ∷ []) []

-- the fans of the five paths
abbrev pub five_list : List Bytes → List ModuleVersion
five_list [] = []
five_list (p ∷ ps) = at p v1 ∷ fan p ++ five_list ps

abbrev pub five_sheet : ℕ → List Bytes → List Place
five_sheet k [] = []
five_sheet k (p ∷ ps) = map (from k) (fan p) ++ five_sheet (suc k) ps

abbrev pub main_main : ModuleVersion
main_main = main_of (codes "main")

abbrev pub cases : List Case
cases =
    -- a fresh project lists one row
    (book [], [], list enough, gives fresh (from 0 (main_of (codes "_")) ∷ []) (main_of (codes "_") ∷ []))
    ∷ (book network, upper ∷ [], list enough, gives upper_state upper_sheet upper_list)
    -- to lower, each path offers its versions, the highest first
    ∷ (
      book network,
      upper ∷ [],
      lower_outfall,
      gives lowered_state (from 0 main_upper ∷ from 0 outfall1 ∷ from 0 rain ∷ from 0 trunk2 ∷ from 0 trunk0 ∷ from 4 outfall3 ∷ []) upper_list,
    )
    ∷ (
      book network,
      upper ∷ lower_outfall ∷ [],
      list enough,
      gives lowered_state (from 0 main_upper ∷ from 0 outfall1 ∷ from 0 rain ∷ from 0 trunk2 ∷ []) (main_upper ∷ outfall1 ∷ rain ∷ trunk2 ∷ []),
    )
    -- there is nothing to lower, at an equal version or on the main path
    ∷ (
      book network,
      upper ∷ [],
      lower (codes "outfall") (codes "v1.3.0") enough,
      refuses (refusal_for nothing_to_change) upper_state upper_sheet upper_list,
    )
    ∷ (
      book network,
      upper ∷ [],
      lower (codes "upper") (codes "v0.0.0") enough,
      refuses (refusal_for nothing_to_change) upper_state upper_sheet upper_list,
    )
    -- an excluded requirement is passed over
    ∷ (
      book network,
      upper ∷ exclude trunk2 ∷ [],
      list enough,
      gives (state (codes "upper") (rain ∷ trunk0 ∷ []) (trunk2 ∷ [])) (from 0 main_upper ∷ from 0 rain ∷ from 0 trunk0 ∷ from 2 outfall3 ∷ [])
          (main_upper ∷ outfall3 ∷ rain ∷ trunk0 ∷ []),
    )
    ∷ (book network, upper ∷ [], exclude trunk2, changes (state (codes "upper") (rain ∷ trunk0 ∷ []) (trunk2 ∷ [])))
    ∷ (
      book network,
      upper ∷ exclude trunk2 ∷ [],
      exclude trunk2,
      refuses (refusal_for nothing_to_change) (state (codes "upper") (rain ∷ trunk0 ∷ []) (trunk2 ∷ [])) [] [],
    )
    -- a requirement on the main path is passed over
    ∷ (
      book network,
      loads (codes "outfall") (trunk0 ∷ []) [] ∷ [],
      list enough,
      gives (state (codes "outfall") (trunk0 ∷ []) []) (from 0 (main_of (codes "outfall")) ∷ from 0 trunk0 ∷ []) (main_of (codes "outfall") ∷ trunk0 ∷ []),
    )
    -- trunk v1.2.0 is missing: it stands at place 3, one layer down
    ∷ (
      book broken_network,
      upper ∷ [],
      list enough,
      refuses (record { cause = missing; place = 0; depth = 1; sheet_place = 3 }) upper_state
          (from 0 main_upper ∷ from 0 rain ∷ from 0 trunk0 ∷ from 1 trunk2 ∷ from 2 outfall3 ∷ []) [],
    )
    -- a fallback finds it, and finds nothing where the first source is damaged: the fault rises through two layers
    ∷ (falling_back (book broken_network) (book network), upper ∷ [], list enough, gives upper_state upper_sheet upper_list)
    ∷ (
      falling_back mute (book network),
      upper ∷ [],
      list enough,
      refuses (record { cause = damaged_buffer; place = 5; depth = 2; sheet_place = 1 }) upper_state (from 0 main_upper ∷ from 0 rain ∷ from 0 trunk0 ∷ []) [],
    )
    -- in a ring: what requires b above its ceiling is not kept, and the ring of the lower versions is
    ∷ (
      book rings,
      loads (codes "main") (a1 ∷ []) [] ∷ [],
      lower (codes "b") (codes "v1.0.0") enough,
      gives (state (codes "main") (a0 ∷ b0 ∷ []) []) (from 0 main_main ∷ from 0 a1 ∷ from 0 a0 ∷ from 0 b0 ∷ from 1 b1 ∷ []) (main_main ∷ a1 ∷ b1 ∷ []),
    )
    -- a has no version that can be kept
    ∷ (
      book bound,
      loads (codes "main") (a0 ∷ []) [] ∷ [],
      lower (codes "b") (codes "v1.0.0") enough,
      gives (state (codes "main") (b0 ∷ []) []) (from 0 main_main ∷ from 0 a0 ∷ from 0 b0 ∷ from 1 b1 ∷ []) (main_main ∷ a0 ∷ b1 ∷ []),
    )
    -- to lower, what is missing is no fault, and what is damaged is one
    ∷ (
      book old_network,
      upper ∷ [],
      lower_outfall,
      gives lowered_state
          (from 0 main_upper ∷ from 0 outfall1 ∷ from 0 rain ∷ from 0 rain9 ∷ from 0 trunk2 ∷ from 0 trunk0 ∷ from 3 lost ∷ from 5 outfall3 ∷ []) upper_list,
    )
    ∷ (
      worn_network,
      upper ∷ [],
      lower_outfall,
      refuses (record { cause = damaged_buffer; place = 5; depth = 1; sheet_place = 3 }) upper_state
          (from 0 main_upper ∷ from 0 outfall1 ∷ from 0 rain ∷ from 0 rain9 ∷ from 0 trunk2 ∷ from 0 trunk0 ∷ []) upper_list,
    )
    -- so is a listing's fault, after the offers of the paths before it
    ∷ (
      unlisting,
      upper ∷ [],
      lower_outfall,
      refuses (record { cause = damaged_buffer; place = 5; depth = 1; sheet_place = 0 }) upper_state (from 0 main_upper ∷ []) upper_list,
    )
    ∷ (
      half_listing,
      upper ∷ [],
      lower_outfall,
      refuses (record { cause = damaged_buffer; place = 5; depth = 1; sheet_place = 0 }) upper_state (from 0 main_upper ∷ from 0 outfall1 ∷ []) upper_list,
    )
    -- 256 are reached, and 257
    ∷ (
      fans,
      loads (codes "main") tops [] ∷ [],
      list enough,
      gives (state (codes "main") tops []) (from 0 main_main ∷ map (from 0) tops ++ five_sheet 1 five) (main_main ∷ five_list five),
    )
    ∷ (
      fans,
      loads (codes "main") (tops ++ at (codes "ff") v1 ∷ []) [] ∷ [],
      list enough,
      refuses (refusal_for too_many_module_versions) (state (codes "main") (tops ++ at (codes "ff") v1 ∷ []) [])
          (take 256 (from 0 main_main ∷ map (from 0) (tops ++ at (codes "ff") v1 ∷ []) ++ five_sheet 1 five)) [],
    )
    -- a slice is too short
    ∷ (book network, upper ∷ [], list scant, refuses (refusal_for slice_too_short) upper_state [] [])
    -- a ring ends
    ∷ (
      book ring,
      loads (codes "main") (a0 ∷ []) [] ∷ [],
      list enough,
      gives (state (codes "main") (a0 ∷ []) []) (from 0 main_main ∷ from 0 a0 ∷ from 1 b0 ∷ from 2 a1 ∷ []) (main_main ∷ a1 ∷ b0 ∷ []),
    )
    -- of rows for one path the highest counts, and equal exclusions count once
    ∷ (
      book network,
      [],
      loads (codes "upper") (trunk2 ∷ rain ∷ trunk0 ∷ []) (trunk0 ∷ rain9 ∷ trunk0 ∷ []),
      changes (state (codes "upper") (rain ∷ trunk2 ∷ []) (rain9 ∷ trunk0 ∷ [])),
    )
    ∷ (
      book network,
      upper ∷ [],
      load (unread bad_version 7),
      refuses (record { cause = bad_version; place = 7; depth = 0; sheet_place = 0 }) upper_state [] [],
    )
    ∷ (book network, upper ∷ [], raise trunk2, changes (state (codes "upper") (rain ∷ trunk2 ∷ []) []))
    ∷ (book network, upper ∷ [], raise outfall1, changes (state (codes "upper") (outfall1 ∷ rain ∷ trunk0 ∷ []) []))
    ∷ (book network, upper ∷ [], raise trunk0, refuses (refusal_for nothing_to_change) upper_state [] [])
    ∷ (book network, upper ∷ [], drop (codes "rain"), changes (state (codes "upper") (trunk0 ∷ []) []))
    ∷ (book network, upper ∷ [], drop (codes "outfall"), refuses (refusal_for nothing_to_change) upper_state [] [])
    ∷ []

-- THE EXAMPLES
pub record Examples : Type 0 where
  pub rise : rising (no_versions ++ some_versions) ≡ replicate 26 Less
  pub no_version : map is_version no_versions ≡ replicate 11 false
  pub version : map is_version some_versions ≡ replicate 16 true
  pub newer : map (λ c. is_newer c.0 c.1) newer_texts ≡ map (λ c. c.2) newer_texts
  pub paths : map (λ c. is_path c.0) path_texts ≡ map (λ c. c.1) path_texts
  -- manifests, with room for two require rows
  pub readings : map (λ t. reading 2 t.0) texts ≡ map (λ t. t.1) texts
  pub calls : map sees cases ≡ map (λ c. c.3) cases
  pub lawful : AllByRecursion (λ c. Lawful c.0) cases
  -- a fallback gives the fault of its first source, of cause 3 and place 2, one deeper, whatever its second holds
  pub fallback : (first second : Meaning) (x : ModuleVersion) → first.requirements x ≡ fault (record { cause = wrong_shape; place = 2; depth = 0 })
      → (falling_back first second).requirements x ≡ fault (record { cause = wrong_shape; place = 2; depth = 1 })
