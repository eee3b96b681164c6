pub mod TurnLemmas
pub mod HearingLemmas
pub mod CallLemmas
pub mod SlotLemmas
pub mod CountLemmas
pub mod AnswerLemmas
pub mod TextLemmas
pub mod SessionLemmas
pub mod LawLemmas
mod Examples
pub mod TurnLineLemmas
pub mod RoundLemmas
pub mod DeliveryLemmas
pub mod NameLemmas
pub mod RoomLemmas
pub mod RunLemmas
pub mod TalkLemmas
pub mod RunLawLemmas
