-- Kinds of replies.
use Rattle.std.specs.Prelude.{Bool, true, false}
use Rattle.askrene_command.specs.declared.reply.EventReply.{EventReply}
use Rattle.askrene_command.specs.declared.reply.EventReply.TheVariants.{Done, Removed, Informed, Layers, Reservations, Routes, Refused}

-- whether routes are to be computed from the reply
abbrev pub is_routes : EventReply → Bool
is_routes Done = false
is_routes (Removed count) = false
is_routes (Informed constraint) = false
is_routes (Layers layers) = false
is_routes (Reservations now list) = false
is_routes (Routes snapshot) = true
is_routes (Refused refusal) = false
