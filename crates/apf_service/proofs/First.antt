-- The first line is that of the level that was opened, and nothing was done where it was not.
use Rattle.std.proofs.Common.{◌≡◌, ℕ, List, Option, refl, subst}
use Rattle.std.specs.Io.KnownBytes.{Appends}
use Rattle.apf_local.specs.declared.fault.OpenFault.{OpenFault}
use Rattle.apf_local.specs.declared.fault.OpenFault.TheVariants as opens
use Rattle.apf_model.specs.declared.config.Config.{Config}
use Rattle.apf_protocol.specs.Texts.{first_text}
use Rattle.apf_service.specs.Faults.{told_of_open}
use Rattle.apf_service.specs.Serving.{Setup, ServesUntil}

-- the first line of a level that is opened so
abbrev pub first_said : Setup → List ℕ
first_said setup = first_text (record { slots = setup.slots; config = setup.config })

pub first_of : (setup : Setup) (slots : ℕ) (config : Config) (a b : Option (List ℕ)) → slots ≡ setup.slots → config ≡ setup.config → Appends a b (first_text (record { slots = slots; config = config })) → Appends a b (first_said setup)
first_of setup slots config a b many same first =
    subst (λ (n : ℕ). Appends a b (first_text (record { slots = n; config = setup.config }))) many
    (subst (λ (c : Config). Appends a b (first_text (record { slots = slots; config = c }))) same first)

-- a level that was not opened read nothing and wrote nothing
pub not_opened : (setup : Setup) (was held : Option (List ℕ)) (fault : OpenFault) → ServesUntil setup was was held held (told_of_open fault)
not_opened setup was held opens.NoMemory = (refl, refl)
not_opened setup was held (opens.Gate fault) = (refl, refl)
not_opened setup was held (opens.Level fault) = (refl, refl)
