-- All of a vault but the passwords.
-- Assumes nothing.
use Rattle.rights.specs.declared.Vault.{Vault}
use Rattle.rights.specs.declared.View.{View}

abbrev pub view_of : Vault → View
view_of v = record { areas = v.areas; lock0 = v.lock0; lock1 = v.lock1; lockcfg = v.lockcfg; session = v.keys.session }
