pub mod KnownTickets
