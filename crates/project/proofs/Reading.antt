-- What was read into two slices, as the tables that are made of it. Assumes nothing.
use Rattle.std.proofs.Common.{◌≡◌, ℕ, zero, suc, ◌-◌, Bool, true, cond, ◌&&◌, leb, List, [], ◌∷◌, map, length, take, replicate, Ok, refl, ap, ◌∙◌, ap₂, inl, inr, arith}
use lib.ListN.{length-replicate}
use Rattle.std.proofs.lemmas.Bool.{and_from}
use Rattle.std.proofs.lemmas.List.{take-append-le, take_all}
use Rattle.rules.specs.Orders.{Bytes}
use Rattle.rules.specs.Causes as R
use Rattle.rules.specs.Names.{ModuleVersion, ◌∈◌}
use Rattle.rules.specs.Texts.{every}
use Rattle.rules.specs.Manifests as M
use Rattle.rules.specs.Projects.{State}
use Rattle.rules.specs.Rows.{table, exclusion_table}
use Rattle.rules.specs.Slices.{blank}
use Rattle.rules.specs.Calls.{accepts, loaded}
use Rattle.modules.specs.Rows.{row_names}
use Rattle.modules.specs.declared.rows.Row.{Row}
use Rattle.manifest.specs.Holds.{names_read, Left}
use Rattle.manifest.specs.Outcomes.{Counts, counted, require_rows, exclude_rows, asked}
use Rattle.manifest.specs.declared.kinds.Owner.TheVariants.{Project}

pub every_member : (test : ModuleVersion → Bool) (xs : List ModuleVersion) → ((x : ModuleVersion) → x ∈ xs → test x ≡ true) → every test xs ≡ true
every_member test [] h = refl
every_member test (x ∷ xs) h = and_from _ _ (h x (inl refl)) (every_member test xs (λ y k. h y (inr k)))

pub map_take : (n : ℕ) (rows : List Row) → map row_names (take n rows) ≡ names_read n rows
map_take n rows = go n rows
  where
    go : (n : ℕ) (xs : List Row) → map row_names (take n xs) ≡ take n (map row_names xs)
    go zero xs = refl
    go (suc n) [] = refl
    go (suc n) (x ∷ xs) = ap (λ ys. row_names x ∷ ys) (go n xs)

-- in slices that are long enough it is what the text is read to
pub asked_is : (b d : Row) (text : Bytes) → asked Project (replicate 256 b) (replicate 32 d) text ≡ M.reading 256 text
asked_is b d text = ap₂ (λ i j. cond (leb 256 i && leb 32 j) (M.reading 256 text) (M.unread R.slice_too_short 0)) (length-replicate 256 b) (length-replicate 32 d)

-- the rows in front of the blanks
front : (before after : List Row) (n : ℕ) (xs : List ModuleVersion) → Left before after xs → n ≡ length xs → map row_names (take n after) ≡ xs
front before after n xs e p =
    ap (λ j. map row_names (take j after)) p ∙ map_take (length xs) after ∙ ap (take (length xs)) e
    ∙ take-append-le (length xs) xs (replicate (length before - length xs) blank) (omega arith) ∙ take_all (length xs) xs (omega arith)

-- it is taken over as a load does it
pub taken_over : (s : State) (r : M.Reading) (main : Bytes) (n k : ℕ) (before after before' after' : List Row)
    → Ok (record { main = main; required = n; excluded = k }) ≡ counted r → Left before after (require_rows r) → Left before' after' (exclude_rows r)
    → accepts (record { main = main; rows = table (map row_names (take n after)); exclusions = exclusion_table (map row_names (take k after')) }) ≡ loaded s r
taken_over s (M.manifest t) main n k before after before' after' e p q =
    let both : ◌≡◌ {A = Counts} (record { main = main; required = n; excluded = k }) (record { main = t.main; required = length t.requires; excluded = length t.excludes }) = cc in
    let rows = front before after n t.requires p (ap (λ (c : Counts). c.required) both) in
    let excludes = front before' after' k t.excludes q (ap (λ (c : Counts). c.excluded) both) in
    λ h. accepts (record { main = (both h).main; rows = table (rows h); exclusions = exclusion_table (excludes h) })
taken_over s (M.unread c l) main n k before after before' after' e p q = let z : ◌≡◌ {A = ℕ} 0 1 = cc in absurd (omega arith)
