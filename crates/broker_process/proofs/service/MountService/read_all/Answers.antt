use Rattle.std.proofs.Common.{List, ℕ, Option, Result, Ok, Err, inl, refl}
use Rattle.broker_process.specs.declared.device.DeviceRead.TheVariants as read
use Rattle.broker_process.specs.declared.fault.MountRunFault.{MountRunFault}
use Rattle.broker_process.specs.declared.fault.MountRunFault.TheVariants.{Broken}
use Rattle.broker_process.specs.declared.service.MountEnd.{MountEnd}
use Rattle.broker_process.specs.declared.service.MountEnd.TheVariants.{Unmounted, Dead}
use Rattle.broker_process.proofs.ServingSteps.{read_before, read_last}
use Rattle.broker_process.proofs.service.MountService.read_all.Goals as goal

pub returns-in-NotMounted : goal.returns-in-NotMounted
returns-in-NotMounted g c = record {
  served = inl (c.loop.invariant (Ok Dead) _ _ (read_last (read.Message c.in-Message.message) (Ok Dead) _ _ _ _ c.in-Message.ensures.reads c.in-NotMounted.ensures.handles));
}

pub returns-in-Refused : goal.returns-in-Refused
returns-in-Refused g c = record {
  served = inl (c.loop.invariant (Err (Broken c.refused.result)) _ _ (read_last (read.Message c.in-Message.message) (Err (Broken c.refused.result)) _ _ _ _ c.in-Message.ensures.reads c.in-Refused.ensures.handles));
}

pub loop-preserved-in-GoesOn : goal.loop-preserved-in-GoesOn
loop-preserved-in-GoesOn g c =
    λ (ended : Result MountEnd MountRunFault). λ (left_then : Option (List ℕ)). λ (output_then : Option (List ℕ)). λ rest.
    c.loop.invariant ended left_then output_then (read_before (read.Message c.in-Message.message) ended _ _ _ _ left_then output_then c.in-Message.ensures.reads c.in-GoesOn.ensures.handles rest)

pub loop-preserved : goal.loop-preserved
loop-preserved g c =
    λ (ended : Result MountEnd MountRunFault). λ (left_then : Option (List ℕ)). λ (output_then : Option (List ℕ)). λ rest.
    c.loop.invariant ended left_then output_then (read_before read.Again ended _ _ _ _ left_then output_then c.in-Again.ensures.reads refl rest)

pub returns-in-Unmounted : goal.returns-in-Unmounted
returns-in-Unmounted g c = record {
  served = inl (c.loop.invariant (Ok Unmounted) _ _ (read_last read.Unmounted (Ok Unmounted) _ _ _ _ c.in-Unmounted.ensures.reads refl));
}

pub returns-in-Broken : goal.returns-in-Broken
returns-in-Broken g c = record {
  served = inl (c.loop.invariant (Err (Broken c.in-Broken.error)) _ _ (read_last (read.Broken c.in-Broken.error) (Err (Broken c.in-Broken.error)) _ _ _ _ c.in-Broken.ensures.reads (refl, refl)));
}
