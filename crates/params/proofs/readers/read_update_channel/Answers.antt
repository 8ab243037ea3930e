-- Each step that went well is taken away from the chain; what is left is the step at fault, or the command.
use Rattle.std.proofs.Common.{refl}
use Rattle.params.specs.Methods.{update_channel_command}
use Rattle.params.proofs.Chains.{bad_exit, unknown_exit}
use Rattle.params.proofs.readers.read_update_channel.Goals as goal

pub returns-in_err-base-clause-err : goal.returns-in_err-base-clause-err
unfolding update_channel_command
returns-in_err-base-clause-err c = rw (c.in_ok-refuse_extra_items.ensures.ok, c.in_ok-layer.ensures.ok, c.in_ok-dir.ensures.ok, c.in_ok-enabled.ensures.ok, c.in_ok-htlc_min.ensures.ok, c.in_ok-htlc_max.ensures.ok) (bad_exit _ _ _ _ _ c.from_residual-in_err-base.ensures.1 c.in_err-base.ensures.err)

pub returns-in_err-ppm-clause-err : goal.returns-in_err-ppm-clause-err
unfolding update_channel_command
returns-in_err-ppm-clause-err c = rw (c.in_ok-refuse_extra_items.ensures.ok, c.in_ok-layer.ensures.ok, c.in_ok-dir.ensures.ok, c.in_ok-enabled.ensures.ok, c.in_ok-htlc_min.ensures.ok, c.in_ok-htlc_max.ensures.ok, c.in_ok-base.ensures.ok) (bad_exit _ _ _ _ _ c.from_residual-in_err-ppm.ensures.1 c.in_err-ppm.ensures.err)

pub returns-in_err-delay-clause-err : goal.returns-in_err-delay-clause-err
unfolding update_channel_command
returns-in_err-delay-clause-err c = rw (c.in_ok-refuse_extra_items.ensures.ok, c.in_ok-layer.ensures.ok, c.in_ok-dir.ensures.ok, c.in_ok-enabled.ensures.ok, c.in_ok-htlc_min.ensures.ok, c.in_ok-htlc_max.ensures.ok, c.in_ok-base.ensures.ok, c.in_ok-ppm.ensures.ok) (bad_exit _ _ _ _ _ c.from_residual-in_err-delay.ensures.1 c.in_err-delay.ensures.err)

pub returns-in_err-refuse_unknown_names-clause-err : goal.returns-in_err-refuse_unknown_names-clause-err
unfolding update_channel_command
returns-in_err-refuse_unknown_names-clause-err c = rw (c.in_ok-refuse_extra_items.ensures.ok, c.in_ok-layer.ensures.ok, c.in_ok-dir.ensures.ok, c.in_ok-enabled.ensures.ok, c.in_ok-htlc_min.ensures.ok, c.in_ok-htlc_max.ensures.ok, c.in_ok-base.ensures.ok, c.in_ok-ppm.ensures.ok, c.in_ok-delay.ensures.ok) (unknown_exit _ _ _ _ c.from_residual-in_err-refuse_unknown_names.ensures.1 c.in_err-refuse_unknown_names.ensures.err)

pub returns-clause-ok : goal.returns-clause-ok
unfolding update_channel_command
returns-clause-ok c = rw (c.in_ok-refuse_extra_items.ensures.ok, c.in_ok-layer.ensures.ok, c.in_ok-dir.ensures.ok, c.in_ok-enabled.ensures.ok, c.in_ok-htlc_min.ensures.ok, c.in_ok-htlc_max.ensures.ok, c.in_ok-base.ensures.ok, c.in_ok-ppm.ensures.ok, c.in_ok-delay.ensures.ok, c.in_ok-refuse_unknown_names.ensures.ok) refl
