-- The worked examples of documents 003 and 004, each a table with one claim that antt computes.
-- Assumes nothing.
use Prim.Native.Nat.{ℕ}
use mathlib.Core.Path.{◌≡◌, refl}
use mathlib.Core.Bool.{false}
use mathlib.Core.List.{List, [], ◌∷◌, map}
use Rattle.std.specs.Prelude.{Some, Ok, Err}
use Rattle.rights.specs.declared.Areas.{Areas}
use Rattle.rights.specs.declared.Vault.{Vault}
use Rattle.rights.specs.declared.Session.TheVariants.{Configuration}
use Rattle.rights.specs.Verdict.{Verdict, after_verdict}
use Rattle.rights.specs.Vault.{view_of}
use Rattle.rights.specs.Passwords.{is_open}
use Rattle.rights.specs.Blocks.{area_of}
use Rattle.rights.specs.Registers.{is_register, allows, permits, register_verdict, with_register}

abbrev pub ends : ℕ → ℕ → ℕ → Areas
ends x y z = record { rfa1ss = 0; enda1 = x; rfa2ss = 0; enda2 = y; rfa3ss = 0; enda3 = z; rfa4ss = 0 }

-- three ends, a block, and its area
pub record Placed : Type 0 where
  pub areas : Areas
  pub block : ℕ
  pub area : ℕ

abbrev pub placed : Areas → ℕ → ℕ → Placed
placed a b i = record { areas = a; block = b; area = i }

-- 004, 3.5: "ENDA1 = int(97/8) = 12 (0Ch). Last block of user Area1 is block address 103 (67h)". 003, after Table 3: the three settings of a 64 Kbit tag
pub places : List Placed
places =
    placed (ends 12 255 255) 103 1
    ∷ placed (ends 12 255 255) 104 2
    ∷ placed (ends 0x10 0xFF 0xFF) 0x0087 1
    ∷ placed (ends 0x10 0xFF 0xFF) 0x0088 2
    ∷ placed (ends 0x10 0xFF 0xFF) 0x07FF 2
    ∷ placed (ends 0x3F 0x5F 0xBF) 0x01FF 1
    ∷ placed (ends 0x3F 0x5F 0xBF) 0x0200 2
    ∷ placed (ends 0x3F 0x5F 0xBF) 0x02FF 2
    ∷ placed (ends 0x3F 0x5F 0xBF) 0x0300 3
    ∷ placed (ends 0x3F 0x5F 0xBF) 0x05FF 3
    ∷ placed (ends 0x3F 0x5F 0xBF) 0x0600 4
    ∷ placed (ends 0x3F 0x5F 0xBF) 0x07FF 4
    ∷ placed (ends 0x7F 0xFF 0xFF) 0x03FF 1
    ∷ placed (ends 0x7F 0xFF 0xFF) 0x0400 2
    ∷ []

pub places_hold : map (λ (p : Placed). area_of p.areas p.block) places ≡ map (λ (p : Placed). p.area) places
unfolding places area_of
places_hold = refl

-- 003, "Example of successive user memory area setting": the register writes of its steps 2 and 3, in order, from its step 1, and
-- before them the write that it says would have resulted in an error
pub record Step : Type 0 where
  pub address : ℕ
  pub value : ℕ
  pub answer : Verdict

abbrev pub step : ℕ → ℕ → Verdict → Step
step a v d = record { address = a; value = v; answer = d }

pub steps : List Step
steps =
    step 0x09 0xFF (Err 0x13)
    ∷ step 0x05 0x3F (Ok tt)
    ∷ step 0x07 0x5F (Ok tt)
    ∷ step 0x09 0xBF (Ok tt)
    ∷ step 0x09 0xFF (Ok tt)
    ∷ step 0x07 0xFF (Ok tt)
    ∷ step 0x05 0x7F (Ok tt)
    ∷ []

pub configured : Vault
configured =
    record { areas = ends 0x10 0xFF 0xFF; lock0 = false; lock1 = false; lockcfg = false; keys = record { passwords = 0 ∷ 0 ∷ 0 ∷ 0 ∷ []; session = Some Configuration } }

pub answers : Vault → List Step → List Verdict
answers v [] = []
answers v (s ∷ ss) =
    let d = register_verdict 255 (view_of v) s.address s.value in
    d ∷ answers (after_verdict d v (with_register v s.address s.value)) ss

pub steps_hold : answers configured steps ≡ map (λ (s : Step). s.answer) steps
unfolding steps configured answers is_open is_register allows permits register_verdict with_register
steps_hold = refl
