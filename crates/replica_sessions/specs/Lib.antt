pub mod SessionFault
pub mod Kinds
pub mod KeptNews
pub mod Answer
