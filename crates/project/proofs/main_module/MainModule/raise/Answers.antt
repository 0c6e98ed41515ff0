-- The rows stay well formed. Assumes nothing.
use Rattle.std.proofs.Common.{◌≡◌, Bool, true, false, is_ok, refl, ap, ◌∙◌}
use Rattle.rules.specs.Names.{ModuleVersion, is_module_version}
use Rattle.rules.specs.Texts.{every}
use Rattle.rules.specs.Rows.{with_row}
use Rattle.modules.specs.Rows.{row_names, names_of}
use Rattle.modules.specs.Tables.{requirement_names}
use Rattle.modules.specs.declared.requirements.Requirements.{Requirements}
use Rattle.project.proofs.Formed.{formed_with, formed_names}
use Rattle.project.proofs.main_module.MainModule.raise.Goals as goal

still_formed : (t u : Requirements) (x : ModuleVersion) (b : Bool) → (b ≡ true → requirement_names u ≡ with_row x (requirement_names t)) → (b ≡ false → u ≡ t)
    → is_module_version x ≡ true → every is_module_version (requirement_names t) ≡ true → every is_module_version (requirement_names u) ≡ true
still_formed t u x true after refused p h = ap (every is_module_version) (after refl) ∙ formed_with x (requirement_names t) p h
still_formed t u x false after refused p h = ap (λ (v : Requirements). every is_module_version (requirement_names v)) (refused refl) ∙ h

pub invariant_of-self : goal.invariant_of-self
invariant_of-self c =
    let of = c.args.of.now in
    let t = c.args.self.now.requirements in
    let x = row_names c.row.result in
    let same : x ≡ names_of of = ap row_names c.row.ensures in
    record { formed = still_formed t c.raise.new.self x (is_ok c.raise.result) c.raise.ensures.after c.raise.ensures.refused (ap is_module_version same ∙ formed_names of) c.args.self.now.formed }
