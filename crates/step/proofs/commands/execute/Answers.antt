-- `step::commands::execute` meets its contract: each arm is what its function promised.
-- Assumes nothing.
use mathlib.Core.Path.{refl}
use mathlib.Core.List.{[], ◌∷◌}
use Prim.Native.Nat.{◌/◌}
use lib.Dec.{eqb}
use lib.ListN.{length}
use Rattle.record.specs.declared.State.TheVariants.{Quiet}
use Rattle.record.specs.Update.{with_state, with_front}
use Rattle.tag.specs.Work.{perform, apply_to_tag, apply_to_memory, afi, afi_lock, dsfid, dsfid_lock, register, password, block_lock}
use Rattle.tag.specs.Commands.{act_of}
use Rattle.tag.proofs.Listing.{limit_within}
use Rattle.tag.proofs.Sizes.{memory_bounds}
use Rattle.step.proofs.Acts.{quiet, request_gives, written, blocks_written}
use native.Mathlib.Omega.{arith}
use Rattle.step.proofs.commands.execute.Goals as goal

-- the blocks that are read lie in the memory, and their bytes in the room
pub read-requires-clause-in_memory : goal.read-requires-clause-in_memory
read-requires-clause-in_memory c = rw c.run_of.ensures (omega (arith, limit_within c.args.e (length c.args.memory.now / 4)))

pub read-requires-clause-in_room : goal.read-requires-clause-in_room
read-requires-clause-in_room c =
    rw c.run_of.ensures
    (omega (arith, limit_within c.args.e (length c.args.memory.now / 4), (memory_bounds (length c.args.memory.now) c.requires.memory_value).1))

pub status-requires : goal.status-requires
status-requires c =
    rw c.run_of-in-Status.ensures
    (omega (arith, limit_within c.args.e (length c.args.memory.now / 4), (memory_bounds (length c.args.memory.now) c.requires.memory_value).1))

-- what reads, and what only the state shows

pub returns-in-StayQuiet : goal.returns-in-StayQuiet
unfolding act_of perform apply_to_tag apply_to_memory
returns-in-StayQuiet c =
    request_gives _ _ _ _ _ _ c.in-StayQuiet.is c.holds-hold.ensures
    (rw c.stay_quiet.ensures (quiet c.holds-hold.result (with_front c.args.t (with_state c.args.t.front Quiet)) c.args.memory.now))

pub returns-in-Read : goal.returns-in-Read
unfolding act_of perform apply_to_tag apply_to_memory
returns-in-Read c =
    request_gives _ _ _ _ _ _ c.in-Read.is c.holds-hold.ensures
    (rw c.run_of.ensures at c.read.ensures)

pub returns-in-Status : goal.returns-in-Status
unfolding act_of perform apply_to_tag apply_to_memory
returns-in-Status c =
    request_gives _ _ _ _ _ _ c.in-Status.is c.holds-hold.ensures
    (rw c.run_of-in-Status.ensures at (c.status.ensures c.args.memory.now))

pub returns-in-ReadRegister : goal.returns-in-ReadRegister
unfolding act_of perform apply_to_tag apply_to_memory
returns-in-ReadRegister c =
    request_gives _ _ _ _ _ _ c.in-ReadRegister.is c.holds-hold.ensures
    (rw (← c.byte_at-n.ensures) (c.read_register.ensures c.args.memory.now))

pub returns-in-Present : goal.returns-in-Present
unfolding act_of perform apply_to_tag apply_to_memory
returns-in-Present c =
    request_gives _ _ _ _ _ _ c.in-Present.is c.holds-hold.ensures
    (rw (← c.byte_at-n.ensures, ← c.number8.ensures) (c.present.ensures c.args.memory.now))

pub returns-in-Select : goal.returns-in-Select
unfolding act_of perform apply_to_tag apply_to_memory
returns-in-Select c =
    request_gives _ _ _ _ _ _ c.in-Select.is c.holds-hold.ensures
    (rw c.moved.ensures at (c.conclude-in-Select.ensures c.args.memory.now))

pub returns-in-ResetToReady : goal.returns-in-ResetToReady
unfolding act_of perform apply_to_tag apply_to_memory
returns-in-ResetToReady c =
    request_gives _ _ _ _ _ _ c.in-ResetToReady.is c.holds-hold.ensures
    (rw c.moved-in-ResetToReady.ensures at (c.conclude-in-ResetToReady.ensures c.args.memory.now))

pub returns-in-Unlisted : goal.returns-in-Unlisted
unfolding act_of perform apply_to_tag apply_to_memory
returns-in-Unlisted c =
    request_gives _ _ _ _ _ _ c.in-Unlisted.is c.holds-hold.ensures
    (c.conclude-in-Unlisted.ensures c.args.memory.now)

-- what writes
pub returns-in-Write : goal.returns-in-Write
unfolding act_of perform apply_to_tag apply_to_memory
returns-in-Write c =
    request_gives _ _ _ _ _ _ c.in-Write.is c.holds-hold.ensures
    (blocks_written _ _ _ _ _ _ _ c.write.ensures.written (rw c.write.ensures.verdict at c.settle.ensures))

pub returns-in-Lock : goal.returns-in-Lock
unfolding act_of perform apply_to_tag apply_to_memory
returns-in-Lock c =
    request_gives _ _ _ _ _ _ c.in-Lock.is c.holds-hold.ensures
    (rw (← c.first_block.ensures)
    (written _ _ _ (block_lock (eqb c.first_block.result 1) ∷ []) (λ m. refl) refl
    (rw c.lock.ensures at c.conclude.ensures) c.args.memory.now))

pub returns-in-WriteAfi : goal.returns-in-WriteAfi
unfolding act_of perform apply_to_tag apply_to_memory
returns-in-WriteAfi c =
    request_gives _ _ _ _ _ _ c.in-WriteAfi.is c.holds-hold.ensures
    (rw (← c.byte_at-n.ensures)
    (written _ _ _ (afi c.byte_at-n.result ∷ []) (λ m. refl) refl
    (rw (c.unless_locked.ensures, c.set_afi-front.ensures) at c.conclude-in-WriteAfi.ensures) c.args.memory.now))

pub returns-in-LockAfi : goal.returns-in-LockAfi
unfolding act_of perform apply_to_tag apply_to_memory
returns-in-LockAfi c =
    request_gives _ _ _ _ _ _ c.in-LockAfi.is c.holds-hold.ensures
    (written _ _ _ (afi_lock ∷ []) (λ m. refl) refl
    (rw (c.unless_locked-in-LockAfi.ensures, c.lock_afi-front.ensures) at c.conclude-in-LockAfi.ensures) c.args.memory.now)

pub returns-in-WriteDsfid : goal.returns-in-WriteDsfid
unfolding act_of perform apply_to_tag apply_to_memory
returns-in-WriteDsfid c =
    request_gives _ _ _ _ _ _ c.in-WriteDsfid.is c.holds-hold.ensures
    (rw (← c.byte_at-n.ensures)
    (written _ _ _ (dsfid c.byte_at-n.result ∷ []) (λ m. refl) refl
    (rw (c.unless_locked-in-WriteDsfid.ensures, c.set_dsfid-front.ensures) at c.conclude-in-WriteDsfid.ensures) c.args.memory.now))

pub returns-in-LockDsfid : goal.returns-in-LockDsfid
unfolding act_of perform apply_to_tag apply_to_memory
returns-in-LockDsfid c =
    request_gives _ _ _ _ _ _ c.in-LockDsfid.is c.holds-hold.ensures
    (written _ _ _ (dsfid_lock ∷ []) (λ m. refl) refl
    (rw (c.unless_locked-in-LockDsfid.ensures, c.lock_dsfid-front.ensures) at c.conclude-in-LockDsfid.ensures) c.args.memory.now)

pub returns-in-WriteRegister : goal.returns-in-WriteRegister
unfolding act_of perform apply_to_tag apply_to_memory
returns-in-WriteRegister c =
    request_gives _ _ _ _ _ _ c.in-WriteRegister.is c.holds-hold.ensures
    (rw (← c.byte_at-n.ensures, ← c.byte_at-value.ensures)
    (written _ _ _ (register c.byte_at-n.result c.byte_at-value.result ∷ []) (λ m. refl) refl
    (rw (c.write_register.ensures, c.last_end.ensures) at c.conclude-in-WriteRegister.ensures) c.args.memory.now))

pub returns-in-WritePassword : goal.returns-in-WritePassword
unfolding act_of perform apply_to_tag apply_to_memory
returns-in-WritePassword c =
    request_gives _ _ _ _ _ _ c.in-WritePassword.is c.holds-hold.ensures
    (rw (← c.byte_at-n.ensures, ← c.number8-value.ensures)
    (written _ _ _ (password c.byte_at-n.result c.number8-value.result ∷ []) (λ m. refl) refl
    (rw c.write_password.ensures at c.conclude-in-WritePassword.ensures) c.args.memory.now))
